use Rattle.bbm_idle.proofs.Common.{Phase, Patterns, StandsByPatterns, is_kept, is_kept_by}
use Rattle.bbm_rules.proofs.Common.{◌≡◌, ℕ, List, take, every, Heading, Event}
use Rattle.bbm_rules.specs.Phases.{phase_of}
use Rattle.bbm_idle.proofs.find_phases.phases_of.Given as goal

abbrev pub invariant-loop-place : goal.invariant-loop-place
invariant-loop-place l = (heading : Heading) (h : List Event) → StandsByPatterns l.history heading h
    → (pes : ℕ) (new : ℕ → ℕ → Phase) → every (is_kept_by pes new) l.old.items
    ≡ every (is_kept pes new (phase_of heading Patterns h)) (take l.place-index l.places)
