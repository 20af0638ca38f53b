use Rattle.bbm_certify.proofs.OneCertificate.{one_certificate}
use Rattle.bbm_certify.proofs.laws.law_one_certificate.Goals as goal

pub returns : goal.returns
returns c = one_certificate
