use Rattle.bbm_counterrun.proofs.Common.{notes}
use Rattle.bbm_rules.proofs.Common.{Above, rules}
use Rattle.bbm_counterrun.specs.Ways.{goal_among}
use Rattle.bbm_counterrun.proofs.WayCode.{above_next}
use Rattle.bbm_counterrun.proofs.way.add_above.Goals as goal

pub loop-place-preserved : goal.loop-place-preserved
loop-place-preserved c = record {
  so_far = above_next (λ (a : Above). a.place) (goal_among c.args.history.now.heading c.args.history.now.trust (notes c.args.history.now))
      c.args.above.now c.loop-place.place-index c.place-item.result _ _ _ _ (search rules) c.loop-place-test.true c.place-item.is
      c.loop-place.invariant.so_far c.in_ok-add_in_front.ensures;
}
