use Rattle.bbm_events.proofs.HeaderLines.{header_lines}
use Rattle.bbm_events.proofs.ItemLines.{item_lines}
use Rattle.bbm_events.proofs.laws.law_written_is_read.Goals as goal

pub returns : goal.returns
returns c = record {
  header = λ heading ok. header_lines.again heading tt ok tt;
  item = λ heading item ok fits. (item_lines heading).again item ok fits fits;
}
