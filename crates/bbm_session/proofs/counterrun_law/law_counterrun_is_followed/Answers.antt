use Rattle.bbm_session.proofs.CounterrunTexts.{text_followed}
use Rattle.bbm_session.proofs.counterrun_law.law_counterrun_is_followed.Goals as goal

pub returns : goal.returns
returns c bytes text = text_followed (record {
  lines = c.law_written_is_a_line.ensures;
  read = c.law_written_is_read.ensures;
  machine_plain = c.law_machine_written_is_a_line.ensures.plain;
  machine_short = c.law_machine_written_is_a_line.ensures.short;
  machine_read = c.law_machine_written_is_read.ensures;
}) (record {
  fit = c.law_steps_fit.ensures;
  short = c.law_run_is_short.ensures;
  ends = c.law_conflict_at_the_end.ensures;
}) (record { header = c.law_header_in_range.ensures; item = c.law_item_fits.ensures }) bytes text
