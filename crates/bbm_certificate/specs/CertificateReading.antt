-- A log and right behind it its certificate, line by line: a fold over lines. All lines are read before anything is
-- judged. Events are newest first, and claims in their order.
-- Source: project's own choice.
use Rattle.std.specs.Prelude.{◌≡◌, ◌≤◌, ℕ, ◌+◌, Bool, true, false, ◌==◌, nat_le, List, [], ◌∷◌, ◌++◌, length, reverse}
use Rattle.std.specs.Prelude.{Contains, Result, Ok, Err, if◌then◌else◌}
use Rattle.bbm_regimes.specs.declared.regime.Which.TheVariants.{LineBytes, Events, Claims}
use Rattle.bbm_events.specs.declared.certificate.ClaimItem.{ClaimItem}
use Rattle.bbm_events.specs.declared.certificate.ClaimItem.TheVariants as claim_item
use Rattle.bbm_events.specs.declared.claim.Claim.{Claim}
use Rattle.bbm_events.specs.declared.event.Event.{Event}
use Rattle.bbm_events.specs.declared.event.Item.{Item}
use Rattle.bbm_events.specs.declared.event.Item.TheVariants as item
use Rattle.bbm_events.specs.declared.malformed.Malformed.{Malformed as Cause}
use Rattle.bbm_events.specs.declared.malformed.Malformed.TheVariants.{NoEnd, WrongCount, AfterEnd}
use Rattle.bbm_events.specs.Certificate.{certificate_of, claim_of}
use Rattle.bbm_events.specs.Heading.{Heading, heading_ok}
use Rattle.bbm_events.specs.Fits.{fits_heading}
use Rattle.bbm_events.specs.Lines.{header_of, item_of}
use Rattle.bbm_rules.specs.declared.verdict.Verdict.{Verdict}
use Rattle.bbm_rules.specs.declared.verdict.Verdict.TheVariants.{Malformed, Limit}
use Rattle.bbm_rules.specs.Fold.{Turned, Halts, Passes, Fold, Ending, ending_at, header_by}
use Rattle.bbm_certificate.specs.declared.kept.Kept.{Kept}
use Rattle.bbm_certificate.specs.declared.kept.Part.{Part}
use Rattle.bbm_certificate.specs.declared.kept.Part.TheVariants as part
use Rattle.bbm_log_grammar.specs.declared.turn.LineFault.{LineFault}
use Rattle.bbm_log_grammar.specs.declared.turn.LineFault.TheVariants as fault
use Rattle.bbm_log_grammar.specs.declared.turn.Turn.{Turn}
use Rattle.bbm_log_grammar.specs.declared.turn.Turn.TheVariants as turn

-- the most events of a log that has a certificate
abbrev pub event_limit : ℕ
event_limit = 2000

-- the most claims of a certificate
abbrev pub claim_limit : ℕ
claim_limit = 300000

-- how far the lines were read: none; the header and these events; the end of the log; the certificate's first line and
-- these claims; the end of the certificate
pub data Reached : Type 0 where
  AtHeader : Reached
  AtEvents : Heading → List Event → Reached
  BehindLog : Heading → List Event → Reached
  AtClaims : Heading → List Event → List Claim → Reached
  AtEnd : Heading → List Event → List Claim → Reached

-- What is said of a text: reading stopped, at a line that is malformed or reaches a limit, or it was read whole: the
-- heading, the events and the claims.
pub data CertificateSays : Type 0 where
  Stopped : Verdict → CertificateSays
  Whole : Heading → List Event → List Claim → CertificateSays

-- one more event: a malformed line comes before the limit of events
abbrev pub after_event : ℕ → Heading → List Event → Event → Turned Reached CertificateSays
after_event number heading h event =
    if nat_le event_limit (length h) then Halts (Stopped (Limit number Events))
    else Passes (AtEvents heading (event ∷ h))

-- the end of the log, with the right count of its events
abbrev pub after_log : ℕ → Heading → List Event → ℕ → Turned Reached CertificateSays
after_log number heading h count =
    if count == length h then Passes (BehindLog heading h) else Halts (Stopped (Malformed number WrongCount))

-- a line of the log; a label says nothing here
abbrev pub after_item : ℕ → Heading → List Event → Result Item Cause → Turned Reached CertificateSays
after_item number heading h (Ok (item.Event event label)) = after_event number heading h event
after_item number heading h (Ok (item.End count)) = after_log number heading h count
after_item number heading h (Err cause) = Halts (Stopped (Malformed number cause))

-- the line right behind the log, which begins the certificate
abbrev pub after_first : ℕ → Heading → List Event → Result (Unit {0}) Cause → Turned Reached CertificateSays
after_first number heading h (Ok _) = Passes (AtClaims heading h [])
after_first number heading h (Err cause) = Halts (Stopped (Malformed number cause))

-- one more claim
abbrev pub after_claim : ℕ → Heading → List Event → List Claim → Claim → Turned Reached CertificateSays
after_claim number heading h cs claim =
    if nat_le claim_limit (length cs) then Halts (Stopped (Limit number Claims))
    else Passes (AtClaims heading h (cs ++ claim ∷ []))

-- the end of the certificate, with the right count of its claims
abbrev pub after_claims : ℕ → Heading → List Event → List Claim → ℕ → Turned Reached CertificateSays
after_claims number heading h cs count =
    if count == length cs then Passes (AtEnd heading h cs) else Halts (Stopped (Malformed number WrongCount))

-- a line of the certificate behind its first
abbrev pub after_claim_item : ℕ → Heading → List Event → List Claim → Result ClaimItem Cause
    → Turned Reached CertificateSays
after_claim_item number heading h cs (Ok (claim_item.Claim claim)) = after_claim number heading h cs claim
after_claim_item number heading h cs (Ok (claim_item.End count)) = after_claims number heading h cs count
after_claim_item number heading h cs (Err cause) = Halts (Stopped (Malformed number cause))

-- a line of at most 200 bytes
abbrev pub after_line : ℕ → Reached → List ℕ → Turned Reached CertificateSays
after_line number AtHeader line = header_by (λ heading. AtEvents heading []) Stopped number (header_of line)
after_line number (AtEvents heading h) line = after_item number heading h (item_of heading line)
after_line number (BehindLog heading h) line = after_first number heading h (certificate_of line)
after_line number (AtClaims heading h cs) line = after_claim_item number heading h cs (claim_of heading line)
after_line number (AtEnd heading h cs) line = Halts (Stopped (Malformed number AfterEnd))

-- a line that is too long
abbrev pub too_long_at : ℕ → Reached → Verdict
too_long_at number (AtEnd heading h cs) = Malformed number AfterEnd
too_long_at number _ = Limit number LineBytes

-- the end of the input, after these bytes since the last newline
abbrev pub cut_at : ℕ → Reached → List ℕ → CertificateSays
cut_at number (AtEnd heading h cs) [] = Whole heading h cs
cut_at number (AtEnd heading h cs) (byte ∷ rest) = Stopped (Malformed number AfterEnd)
cut_at number _ rest = Stopped (Malformed number NoEnd)

-- the events of a log and the claims of its certificate are kept
unfoldable pub certifying : Fold Reached CertificateSays
certifying = record { line = after_line; long = λ n p. Stopped (too_long_at n p); cut = cut_at }

-- what is said of a list of bytes, and which of them need not be read for it
abbrev pub read_of : List ℕ → Ending CertificateSays
read_of bytes = ending_at certifying 1 AtHeader bytes

-- the number of the next line
abbrev pub next_number : Reached → ℕ
next_number AtHeader = 1
next_number (AtEvents heading h) = length h + 2
next_number (BehindLog heading h) = length h + 3
next_number (AtClaims heading h cs) = length h + length cs + 4
next_number (AtEnd heading h cs) = length h + length cs + 5

-- The events and claims of some lines: the header is one that can be said, each event fits it, and there aren't more of
-- either than the limits.
pub record AreRead (heading : Heading) (h : List Event) (cs : List Claim) : Type 0 where
  pub header : heading_ok heading ≡ true
  pub events : (e : Event) → Contains h e → fits_heading heading e ≡ true
  pub few_events : length h ≤ event_limit
  pub few_claims : length cs ≤ claim_limit

abbrev pub IsSound : Reached → Type 0
IsSound AtHeader = Unit {0}
IsSound (AtEvents heading h) = AreRead heading h []
IsSound (BehindLog heading h) = AreRead heading h []
IsSound (AtClaims heading h cs) = AreRead heading h cs
IsSound (AtEnd heading h cs) = AreRead heading h cs

-- the end of the certificate comes behind its claims
abbrev pub EndsAt : Reached → Turned Reached CertificateSays → Type 0
EndsAt (AtClaims heading h cs) turned = turned ≡ Passes (AtEnd heading h cs)
EndsAt _ turned = ⊥

-- how far the lines behind the header were read, by what is kept of them
abbrev pub reached_in : Heading → Part → List Event → List Claim → Reached
reached_in heading part.Events h cs = AtEvents heading h
reached_in heading part.BehindLog h cs = BehindLog heading h
reached_in heading part.Claims h cs = AtClaims heading h cs

-- the claims of those lines: none before the certificate begins
abbrev pub claims_by : Part → List Claim → List Claim
claims_by part.Claims cs = cs
claims_by _ cs = []

abbrev pub kept_at : Heading → Kept → Reached
kept_at heading kept = reached_in heading kept.part (reverse kept.events.items) kept.claims.items

-- whether a line behind those is one more event or claim
abbrev pub is_kept : Reached → Turned Reached CertificateSays → Bool
is_kept (AtEvents heading h) (Passes (AtEvents heading' h')) = true
is_kept (AtClaims heading h cs) (Passes (AtClaims heading' h' cs')) = true
is_kept _ _ = false

-- What line number n, behind the header, says, by how far the lines before it are read, and with it: it was taken; or
-- it is the end of the certificate; or reading stops. There may be no memory for an event or a claim alone.
abbrev pub TakesLine : ℕ → Reached → Reached → Result Turn LineFault → Turned Reached CertificateSays → Type 0
TakesLine number old new (Ok turn.Taken) turned = turned ≡ Passes new
TakesLine number old new (Ok turn.End) turned = EndsAt old turned × (new ≡ old)
TakesLine number old new (Err (fault.Malformed cause)) turned = turned ≡ Halts (Stopped (Malformed number cause))
TakesLine number old new (Err (fault.Limit which)) turned = turned ≡ Halts (Stopped (Limit number which))
TakesLine number old new (Err fault.NoMemory) turned = is_kept old turned ≡ true
