use Rattle.bbm_texts.proofs.Common.{marked_lines}
use Rattle.bbm_rules.proofs.Common.{reverse}
use Rattle.bbm_rules.specs.Texts.{verdict_text as text_of_verdict}
use Rattle.bbm_texts.proofs.Puts.{puts-then}
use Rattle.bbm_texts.proofs.showing.tell_idle.Goals as goal

pub returns-in-Ok : goal.returns-in-Ok
returns-in-Ok g c = record {
  puts = puts-then (text_of_verdict c.args.verdict.now) (marked_lines (reverse c.args.marks.now)) c.tell_marks.result _ _ _ _ _ _
      c.in-Ok.ensures.puts c.tell_marks.ensures.puts;
}
