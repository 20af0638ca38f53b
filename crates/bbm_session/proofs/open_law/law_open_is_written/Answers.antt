use Rattle.bbm_session.proofs.OpenTexts.{open_followed}
use Rattle.bbm_session.proofs.open_law.law_open_is_written.Goals as goal

pub returns : goal.returns
returns c bytes text heading pe place value p line at label = open_followed (record {
  lines = c.law_written_is_a_line.ensures;
  read = c.law_written_is_read.ensures;
  machine_plain = c.law_machine_written_is_a_line.ensures.plain;
  machine_short = c.law_machine_written_is_a_line.ensures.short;
  machine_read = c.law_machine_written_is_read.ensures;
}) (record {
  fit = c.law_steps_fit.ensures;
  short = c.law_run_is_short.ensures;
  ends = c.law_conflict_at_the_end.ensures;
}) (record { header = c.law_header_in_range.ensures; item = c.law_item_fits.ensures })
    c.law_rule_is_exact.ensures.found bytes text heading pe place value p line at label
