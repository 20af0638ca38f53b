use Rattle.bbm_rules.proofs.Common.{arith}
use Rattle.bbm_counterrun.proofs.JoinSteps.{clear_first, clear_free}
use Rattle.bbm_counterrun.proofs.combining.clear.Goals as goal

pub loop-answer-preserved : goal.loop-answer-preserved
loop-answer-preserved c =
    let was = c.loop-answer.invariant in
    let next = c.pass-joined.ensures in
    record {
      joined = next.joined;
      later = omega (arith, was.later, next.later);
      free = clear_free c.args.search.now.header.now _ c.args.entry.now _ _ _ c.loop-answer-test.true c.answer-item.is _ _ next.later was.free next.free;
      first = clear_first c.args.search.now.header.now _ c.args.entry.now _ _ _ c.loop-answer-test.true c.answer-item.is _ _ _ was.first next.first;
    }
