use Rattle.bbm_counterrun.proofs.Common.{notes}
use Rattle.bbm_rules.proofs.Common.{◌≡◌, ◌++◌, map, take, reverse, Above}
use Rattle.bbm_counterrun.specs.Ways.{goals_among}
use Rattle.bbm_counterrun.proofs.way.add_above.Given as goal

abbrev pub invariant-loop-place : goal.invariant-loop-place
invariant-loop-place l = record {
  so_far : l.way.items ≡ goals_among l.history.heading l.history.trust (notes l.history)
      (reverse (map (λ (a : Above). a.place) (take l.place-index l.above))) ++ l.fn.way.items;
}
