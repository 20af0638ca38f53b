-- What `cert` writes: the text of a certificate. A history is newest first, claims stand in the order of a certificate.
-- Source: project's own choice.
use Rattle.std.specs.Prelude.{◌≡◌, ℕ, List, ◌++◌, length}
use Rattle.bbm_certify.specs.LeastClaims.{IsCertificate}
use Rattle.bbm_events.specs.declared.certificate.ClaimItem.TheVariants as item
use Rattle.bbm_events.specs.declared.claim.Claim.{Claim}
use Rattle.bbm_events.specs.declared.event.Event.{Event}
use Rattle.bbm_events.specs.Certificate.{certificate_line, claim_line}
use Rattle.bbm_events.specs.Heading.{Heading}
use Rattle.bbm_rules.specs.declared.verdict.Verdict.{Verdict}
use Rattle.bbm_rules.specs.declared.verdict.Verdict.TheVariants.{Accepted}
use Rattle.bbm_rules.specs.Texts.{verdict_text}
use Rattle.bbm_texts.specs.Generating.{ended, lines_of}

-- the line of a claim
abbrev pub line_of_claim : Claim → List ℕ
line_of_claim c = claim_line (item.Claim c)

-- the lines of claims
abbrev pub claim_lines : List Claim → List ℕ
claim_lines claims = lines_of line_of_claim claims

-- The text of a certificate, as `verify` reads it behind its log: its first line, the lines of its claims, and how many
-- they are.
abbrev pub certificate_text : List Claim → List ℕ
certificate_text claims =
    ended certificate_line ++ claim_lines claims ++ ended (claim_line (item.End (length claims)))

-- the text of the certificate of a log
abbrev pub CertifiedBy : Heading → List Event → List ℕ → Type 0
CertifiedBy heading h text = (claims : List Claim) × IsCertificate heading h claims × (text ≡ certificate_text claims)

-- of an accepted log the text of its certificate, and else the line of the verdict
abbrev pub CertOf : Heading → List Event → Verdict → List ℕ → Type 0
CertOf heading h (Accepted events) text = CertifiedBy heading h text
CertOf heading h verdict text = text ≡ verdict_text verdict
