use Rattle.bbm_rules.proofs.Common.{◌≡◌, take, flat_map, least, events_of, places_with}
use Rattle.bbm_judge.specs.Flaws.{has_flaw}
use Rattle.bbm_oracle_trees.specs.Past.{notes}
use Rattle.bbm_judge.proofs.flaws.least_of_ends.Given as goal

abbrev pub invariant-loop-end : goal.invariant-loop-end
invariant-loop-end g l = l.found
    ≡ least (flat_map (places_with (has_flaw l.flaw) l.kind (events_of (notes l.history))) (take l.end-index l.ends))
