-- What the program says of a log with a certificate, and which bytes it reads for it.
-- Source: project's own choice.
use Rattle.std.specs.Prelude.{◌≡◌, ◌⊎◌, ℕ, Bool, true, List, [], length, Option, Some}
use Rattle.bbm_events.specs.declared.claim.Claim.{Claim}
use Rattle.bbm_events.specs.declared.event.Event.{Event}
use Rattle.bbm_events.specs.Heading.{Heading}
use Rattle.bbm_rules.specs.Fold.{Text}
use Rattle.bbm_rules.specs.Texts.{verdict_text}
use Rattle.bbm_cert.specs.Judged.{judged}
use Rattle.bbm_certificate.specs.CertificateReading.{Reached, AtHeader, after_line, certifying, is_kept}
use Rattle.bbm_certificate.specs.CertificateReading.{CertificateSays, Stopped}
use Rattle.bbm_certificate.specs.CertificateReading.{Whole, read_of}
use Rattle.bbm_texts.specs.declared.status.Status.{Status}
use Rattle.bbm_session.specs.Run.{ReadFor, ReadToWant}
use Rattle.bbm_texts.specs.Says.{judged_text}
use Rattle.bbm_texts.specs.Statuses.{judged_status, status_of}

-- the status of a text
abbrev pub read_status : CertificateSays → Status
read_status (Stopped verdict) = status_of verdict
read_status (Whole heading h claims) = judged_status (judged heading claims h)

-- what is said of it
abbrev pub read_text : CertificateSays → List ℕ
read_text (Stopped verdict) = verdict_text verdict
read_text (Whole heading h claims) = judged_text (length h) (length claims) (judged heading claims h)

-- These bytes were read and those left unread for what is said of a log and its certificate: the whole text; or those
-- up to the line that stops reading, as for a verdict.
abbrev pub CertifiedReadFor : CertificateSays → Text → List ℕ → Type 0
CertifiedReadFor (Stopped verdict) read unread = ReadFor verdict read unread
CertifiedReadFor (Whole heading h claims) read unread = unread ≡ []

-- whether memory is needed for line number n: it is one more event or claim
abbrev pub certified_needs : ℕ → Reached → List ℕ → Bool
certified_needs number reached line = is_kept reached (after_line number reached line)

-- There was no memory to judge a log that was read whole with its certificate.
pub record CertifiedUnjudged (bytes : List ℕ) (left : Option (List ℕ)) : Type 0 where
  pub heading : Heading
  pub log : List Event
  pub claims : List Claim
  pub whole : (read_of bytes).says ≡ Whole heading log claims
  pub now : left ≡ Some []

-- where there is no memory for a log and its certificate
abbrev pub CertifiedWants : List ℕ → Option (List ℕ) → Type 0
CertifiedWants bytes left =
    ReadToWant certifying AtHeader (λ number reached line. certified_needs number reached line ≡ true) bytes left
    ⊎ CertifiedUnjudged bytes left
