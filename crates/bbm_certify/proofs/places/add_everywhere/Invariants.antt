use Rattle.bbm_certify.proofs.Common.{notes_behind, IsDueSince, IsNewest, Adds}
use Rattle.bbm_rules.proofs.Common.{◌+◌, length, reverse, Noted}
use Rattle.bbm_certify.proofs.places.add_everywhere.Given as goal

abbrev pub invariant-loop-number : goal.invariant-loop-number
invariant-loop-number l = (newest : Noted) → IsNewest newest l.answer (l.before + length l.log)
    → Adds (IsDueSince l.header l.place newest (notes_behind l.before (reverse l.log)) l.number) l.initial.due.items l.due.items
