use Rattle.bbm_rules.proofs.Common.{arith, rules}
use Rattle.bbm_counterrun.proofs.RunCode.{extend_next}
use Rattle.bbm_counterrun.proofs.runs.add_extends.Goals as goal

pub loop-read-preserved : goal.loop-read-preserved
loop-read-preserved c = record {
  count = omega (arith, c.loop-read.invariant.count);
  rest = extend_next c.loop-read.entry c.args.reads.now c.loop-read.read-index c.read-item.result _ c.loop-read.steps.items
      c.add.new.steps.items _ c.loop-read-test.true c.read-item.is (search rules) c.loop-read.invariant.rest c.in_ok-add.ensures;
}
