use Rattle.bbm_certify.proofs.Certified.{certified}
use Rattle.bbm_certify.proofs.laws.law_certificate_is_verified.Goals as goal

pub returns : goal.returns
returns c heading h claims ok kept cert =
    let k = certified heading (c.known.ensures heading ok) claims h claims kept cert (λ x i. i) in k.kept
