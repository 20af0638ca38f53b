use Rattle.bbm_rules.proofs.Common.{reverse}
use Rattle.bbm_counterrun.proofs.WalkCode.{extend_may, extend_none, extend_same}
use Rattle.bbm_counterrun.proofs.walk.extend_by.Goals as goal

pub loop-read-preserved : goal.loop-read-preserved
loop-read-preserved c = record {
  may = extend_may c.args.header.now (reverse c.args.events.now) c.loop-read.last _ _ _ _ _ _ c.loop-read-test.true c.read-item.is c.in_ok-next.ensures c.in-Some.is c.loop-read.invariant.may;
  same = extend_same c.args.header.now (reverse c.args.events.now) c.loop-read.last _ _ _ _ _ _ c.loop-read-test.true c.read-item.is c.in_ok-next.ensures c.in-Some.is c.loop-read.invariant.same;
}

pub returns-in-None : goal.returns-in-None
returns-in-None c =
    extend_none c.args.header.now (reverse c.args.events.now) c.loop-read.last _ _ _ _ _ _ c.loop-read-test.true c.read-item.is c.in_ok-next.ensures
    c.in-None.is c.loop-read.invariant.may
