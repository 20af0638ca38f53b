use Rattle.bbm_rules.proofs.Common.{from_contains}
use Rattle.bbm_certify.proofs.ClaimsFit.{claims_fit}
use Rattle.bbm_events.proofs.Ranges.{ranges}
use Rattle.bbm_certify.proofs.FewClaims.{few_claims_of}
use Rattle.bbm_certify.proofs.laws.law_certificate_can_be_written.Goals as goal

pub returns-clause-few : goal.returns-clause-few
returns-clause-few c heading h claims ok kept within cert =
    few_claims_of heading (c.known.ensures heading ok) (ranges heading ok).pes h claims kept within cert

pub returns-clause-fit : goal.returns-clause-fit
returns-clause-fit c heading h claims ok kept within fit few cert claim there =
    claims_fit heading (c.known.ensures heading ok) (ranges heading ok).pes h claims kept within fit few cert claim
    (from_contains claims claim there)
