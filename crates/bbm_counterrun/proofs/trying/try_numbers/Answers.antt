use Rattle.bbm_rules.proofs.Common.{take}
use Rattle.bbm_counterrun.proofs.ChoiceSteps.{numbers_more}
use Rattle.bbm_counterrun.proofs.trying.try_numbers.Goals as goal

pub loop-number-preserved : goal.loop-number-preserved
loop-number-preserved c = record {
  best = numbers_more _ c.args.numbers.now c.loop-number.number-index c.in_ok-best.best c.loop-number-test.true
      (c.in_ok-best.ensures (take c.loop-number.number-index c.args.numbers.now) c.loop-number.invariant.best);
}
