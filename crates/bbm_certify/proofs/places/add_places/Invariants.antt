use Rattle.bbm_certify.proofs.Common.{notes_of, notes, IsNewest, Adds}
use Rattle.bbm_rules.proofs.Common.{length, reverse, take, Noted}
use Rattle.bbm_certify.specs.DueAt.{AreDue}
use Rattle.bbm_certify.proofs.places.add_places.Given as goal

abbrev pub invariant-loop-place : goal.invariant-loop-place
invariant-loop-place l = (newest : Noted) → IsNewest newest l.answer (length l.log)
    → Adds (AreDue l.history.heading l.history.trust (notes l.history) newest (notes_of (reverse l.log)) (take l.place-index l.places))
    l.initial.due.items l.due.items
