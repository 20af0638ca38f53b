use Rattle.bbm_idle.proofs.Common.{Patterns, StandsByPatterns, is_kept_by}
use Rattle.bbm_rules.proofs.Common.{◌≡◌, List, true, take, every, Event}
use Rattle.bbm_rules.specs.Phases.{phase_of}
use Rattle.bbm_idle.proofs.find_phases.have_still.Given as goal

abbrev pub invariant-loop-place : goal.invariant-loop-place
invariant-loop-place l = (h : List Event) → StandsByPatterns l.history l.header h
    → every (is_kept_by l.header.pes (phase_of l.header Patterns h)) (take l.place-index l.old) ≡ true
