use Rattle.bbm_rules.proofs.Common.{arith}
use Rattle.bbm_texts.proofs.MarkedLines.{marks-failed}
use Rattle.bbm_texts.proofs.showing.tell_marks.Goals as goal

pub returns-in-Err : goal.returns-in-Err
returns-in-Err g c = record {
  puts = marks-failed c.args.marks.now c.events.before _ c.in-Err.failed _ _ _ _ _ _ (omega (arith, c.events-test.true))
      c.events.invariant.puts c.in-Err.ensures.puts;
}
