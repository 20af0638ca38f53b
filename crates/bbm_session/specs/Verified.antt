-- Bytes that are a log and its certificate, by whose claims alone the log keeps the rules.
-- Source: project's own choice.
use Rattle.std.specs.Prelude.{◌≡◌, ℕ, ◌*◌, ◌<◌, ◌≤◌, true, List, [], ◌++◌, length}
use Rattle.bbm_events.specs.declared.claim.Claim.{Claim}
use Rattle.bbm_events.specs.declared.event.Event.{Event}
use Rattle.bbm_events.specs.Heading.{Heading}
use Rattle.bbm_rules.specs.Broken.{keeps}
use Rattle.bbm_rules.specs.Claims.Trust.{Listed}
use Rattle.bbm_certificate.specs.CertificateReading.{Whole, claim_limit, read_of}
use Rattle.bbm_report.specs.ReportLines.{verified_text}
use Rattle.bbm_session.specs.Certificates.{read_status, read_text}
use Rattle.bbm_texts.specs.CertTexts.{certificate_text}
use Rattle.bbm_texts.specs.declared.status.Status.TheVariants.{Accepted}
use Rattle.bbm_tlb_machine.specs.Isolated.{IsolatedBySay}
use Rattle.bbm_tlb_machine.specs.Safe.{IsLog, OneRootATag, Safe}

-- The bytes are a log of this header, newest first, and these claims, and nothing else. The log keeps the rules by the
-- claims alone, it is safe on the machine of TLBs, at every moment of each run over it there is one root a tag, and it
-- is isolated where the header has that word.
pub record IsVerified (bytes : List ℕ) : Type 0 where
  pub heading : Heading
  pub log : List Event
  pub claims : List Claim
  pub read : (read_of bytes).says ≡ Whole heading log claims
  pub is_log : IsLog heading log
  pub kept : keeps heading (Listed claims) log ≡ true
  pub safe : Safe heading log
  pub one_root : OneRootATag heading log
  pub isolated : IsolatedBySay (Listed claims) heading log

-- The text is that of the certificate of a log with so many events, and the bytes of the log with the text behind them
-- are read whole, as the log and these claims: at most 128 for each event, and fewer than the limit of claims. What is
-- said of them is that the log keeps the rules by them.
pub record IsVerifiedBy (bytes text : List ℕ) (events : ℕ) (log : List Event) : Type 0 where
  pub heading : Heading
  pub claims : List Claim
  pub written : text ≡ certificate_text claims
  pub read : read_of (bytes ++ text) ≡ record { says = Whole heading log claims; unread = [] }
  pub few : length claims ≤ 128 * events
  pub below_limit : length claims < claim_limit
  pub told : read_text (read_of (bytes ++ text)).says ≡ verified_text events (length claims)
  pub status : read_status (read_of (bytes ++ text)).says ≡ Accepted
