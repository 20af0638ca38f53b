use Rattle.bbm_rules.proofs.Common.{◌≡◌, take, filter, desc_of, least, events_of, value_of}
use Rattle.bbm_judge.specs.Flaws.{has_flaw}
use Rattle.bbm_oracle_trees.specs.Past.{notes}
use Rattle.bbm_judge.proofs.flaws.least_flawed.Given as goal

abbrev pub invariant-loop-place : goal.invariant-loop-place
invariant-loop-place g l = l.found
    ≡ least (filter (λ place. has_flaw l.flaw l.kind (desc_of l.kind l.level (value_of (events_of (notes l.history)) place)))
    (take l.place-index l.place-items))
