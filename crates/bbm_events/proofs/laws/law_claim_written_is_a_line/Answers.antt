use Rattle.bbm_events.proofs.CertificateLines.{claim_lines}
use Rattle.bbm_events.proofs.Common.{leb-true, refl}
use Rattle.bbm_events.proofs.Ranges.{any_heading}
use Rattle.bbm_events.proofs.laws.law_claim_written_is_a_line.Goals as goal

pub returns : goal.returns
returns c = record {
  first_plain = refl;
  first_short = leb-true 9 200 refl;
  item_plain = λ item. (claim_lines any_heading).plain item tt;
  item_short = λ heading item ok fits. (claim_lines heading).short item ok fits;
}
