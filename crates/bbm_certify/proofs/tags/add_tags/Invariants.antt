use Rattle.bbm_certify.proofs.Common.{Adds, AreTaken}
use Rattle.bbm_rules.proofs.Common.{◌≡◌, ◌∷◌, List, reverse, take, Event}
use Rattle.bbm_certify.proofs.tags.add_tags.Given as goal

abbrev pub invariant-loop-holding : goal.invariant-loop-holding
invariant-loop-holding l = (e : Event) (h : List Event) → reverse l.events ≡ e ∷ h
    → Adds (AreTaken l.header h e (take l.holding-index l.known)) l.initial.due.items l.due.items
