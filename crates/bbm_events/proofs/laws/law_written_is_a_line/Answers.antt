use Rattle.bbm_events.proofs.HeaderLines.{header_lines}
use Rattle.bbm_events.proofs.ItemLines.{item_lines}
use Rattle.bbm_events.proofs.laws.law_written_is_a_line.Goals as goal

pub returns : goal.returns
returns c = record {
  header_plain = λ heading. header_lines.plain heading tt;
  header_short = λ heading ok. header_lines.short heading tt ok;
  item_plain = λ heading item fits. (item_lines heading).plain item fits;
  item_short = λ heading item ok fits. (item_lines heading).short item ok fits;
}
