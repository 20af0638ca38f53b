use Rattle.bbm_session.proofs.CertifiedText.{certificate_is_verified}
use Rattle.bbm_session.proofs.laws.law_cert_then_verify.Goals as goal

pub returns : goal.returns
returns c = certificate_is_verified (record {
  lines = record {
    header = c.law_header_in_range.ensures;
    items = c.law_item_fits.ensures;
    lines = c.law_claim_written_is_a_line.ensures;
    read = c.law_claim_written_is_read.ensures.item;
  };
  few = c.law_certificate_can_be_written.ensures.few;
  fit = c.law_certificate_can_be_written.ensures.fit;
  yes = c.law_certificate_says_yes.ensures;
})
