-- The reader that keeps a log and its certificate: its parts, its lines, and which bytes are read for what is said.
use Rattle.bbm_session.proofs.Common.{Event, Heading, Accepted, Refused, Malformed, Limit, Kept, Stop, Turn}
use Rattle.bbm_session.proofs.Common.{CertifiedReadFor, Reader, IsStart, IsInside, IsEnd, Certifies, certificate_reader}
use Rattle.bbm_session.proofs.Common.{ReadAs, MayTakeLine, FoldsLine}
use Rattle.bbm_rules.proofs.Common.{◌≡◌, ℕ, suc, ◌<◌, Bool, true, false, if◌then◌else◌, List, [], ◌∷◌, length, reverse}
use Rattle.bbm_rules.proofs.Common.{Option, Some, None, refl, ap, sym, ◌∙◌, arith, subst, nat_le, Result, Ok, Err, ◌==◌}
use Rattle.bbm_rules.proofs.Common.{contains_none, Claim, Item, heading_ok, Text, Turned, Halts, Passes}
use Rattle.bbm_rules.proofs.Common.{is_too_long, text_of}
use Rattle.bbm_events.specs.declared.certificate.ClaimItem.{ClaimItem}
use Rattle.bbm_events.specs.declared.certificate.ClaimItem.TheVariants as claim_item
use Rattle.bbm_events.specs.declared.event.Item.TheVariants as item
use Rattle.bbm_events.specs.declared.malformed.Malformed.{Malformed as Cause}
use Rattle.bbm_events.specs.Certificate.{certificate_of, claim_of}
use Rattle.bbm_events.specs.Lines.{header_of, item_of}
use Rattle.bbm_rules.proofs.Folds.{Turns as TurnsBy, said_of}
use Rattle.bbm_rules.specs.Fold.{turned_by, end_by}
use Rattle.bbm_certificate.specs.declared.kept.Part.{Part}
use Rattle.bbm_certificate.specs.declared.kept.Part.TheVariants as part
use Rattle.bbm_log_grammar.specs.declared.turn.LineFault.{LineFault}
use Rattle.bbm_log_grammar.specs.declared.turn.LineFault.TheVariants as fault
use Rattle.bbm_log_grammar.specs.declared.turn.Turn.TheVariants as turn
use Rattle.bbm_certificate.specs.CertificateReading.{AreRead, Reached, AtHeader, AtEvents, BehindLog, AtClaims, AtEnd}
use Rattle.bbm_certificate.specs.CertificateReading.{EndsAt, IsSound, after_item, after_first, after_claim_item}
use Rattle.bbm_certificate.specs.CertificateReading.{after_line, certifying, claims_by, claim_limit, event_limit}
use Rattle.bbm_certificate.specs.CertificateReading.{kept_at, next_number, reached_in, too_long_at, CertificateSays}
use Rattle.bbm_certificate.specs.CertificateReading.{Stopped, Whole, cut_at, read_of}
use Rattle.bbm_certificate.specs.CertificateReading as read
use Rattle.bbm_session.specs.Readers.{Turns, whole_read}
use Rattle.bbm_rules.proofs.AcceptedLogs.{named_line}
use Rattle.bbm_session.proofs.Judgements.{read_for}
use Rattle.bbm_session.proofs.ReadBytes.{ByName, read-by}
use Rattle.bbm_rules.proofs.Folds.{Named, NamedTurn, named_header, named_if, named_turned}

-- ---- the parts of a text

pub certifying-start : IsStart certificate_reader AtHeader (λ heading. AtEvents heading [])
unfolding certifying
certifying-start = record { line = λ l. refl; long = refl; cut = λ rest. refl }

pub certifying-inside : (heading : Heading) (p : Part) (h : List Event) (claims : List Claim)
    → IsInside certificate_reader (reached_in heading p h claims)
unfolding certifying
certifying-inside heading part.Events h claims = record { long = λ n. refl; cut = λ n rest. refl }
certifying-inside heading part.BehindLog h claims = record { long = λ n. refl; cut = λ n rest. refl }
certifying-inside heading part.Claims h claims = record { long = λ n. refl; cut = λ n rest. refl }

certifying-end : (heading : Heading) (h : List Event) (claims : List Claim)
    → IsEnd certificate_reader (AtClaims heading h claims) (AtEnd heading h claims)
unfolding certifying
certifying-end heading h claims =
    record { line = λ n l. refl; long = λ n. refl; nothing = λ n. refl; more = λ n b rest. refl }

-- ---- a line

-- the end of the certificate ends what is kept
ends-kept : (heading : Heading) (p : Part) (h : List Event) (claims : List Claim) (t : Turned Reached CertificateSays)
    → EndsAt (reached_in heading p h claims) t
    → (q : Reached) × (t ≡ Passes q) × IsEnd certificate_reader (reached_in heading p h claims) q
ends-kept heading part.Events h claims t ends = absurd ends
ends-kept heading part.BehindLog h claims t ends = absurd ends
ends-kept heading part.Claims h claims t ends = (AtEnd heading h claims, ends, certifying-end heading h claims)

module _ (heading : Heading) (kept kept' : Kept) (n : ℕ) (line : List ℕ) where
  abbrev Old : Reached
  Old = kept_at heading kept

  abbrev New : Reached
  New = kept_at heading kept'

  abbrev At : Result Turn Stop → Type 0
  At r = FoldsLine certificate_reader (Certifies kept' certificate_reader heading) n Old line r

  certified-at : (t : Result Turn LineFault) (r : Result Turn Stop) → Turns n t r → IsSound Old → n ≡ next_number Old
      → (t ≡ Ok turn.Taken → IsSound Old → IsSound New) → (t ≡ Ok turn.Taken → IsSound Old → next_number New ≡ suc (next_number Old))
      → claims_by kept'.part kept'.claims.items ≡ kept'.claims.items
      → read.TakesLine n Old New t (after_line n Old line) → At r
  unfolding certifying
  certified-at (Ok turn.Taken) r turns sound number sounds counts listed says =
      let counted = counts refl sound in
      subst At (sym turns) (
        New,
        says,
        certifying-inside heading kept'.part (reverse kept'.events.items) kept'.claims.items,
        record {
          reader_is = refl;
          is = refl;
          sound = sounds refl sound;
          number = omega (arith, counted, number);
          listed = listed;
        },
      )
  certified-at (Ok turn.End) r turns sound number sounds counts listed says =
      let k = ends-kept heading kept.part (reverse kept.events.items) kept.claims.items (after_line n Old line) says.0 in
      subst At (sym turns) (
        k.0,
        k.1,
        k.2,
        record {
          reader_is = refl;
          is = sym says.1;
          sound = subst IsSound (sym says.1) sound;
          number = number ∙ ap next_number (sym says.1);
          listed = listed;
        },
      )
  certified-at (Err (fault.Malformed cause)) r turns sound number sounds counts listed says = subst At (sym turns) (says, tt)
  certified-at (Err (fault.Limit which)) r turns sound number sounds counts listed says = subst At (sym turns) (says, tt)
  certified-at (Err fault.NoMemory) r turns sound number sounds counts listed says = subst At (sym turns) says

pub certified-takes : (heading : Heading) (kept kept' : Kept) (reader : Reader Reached CertificateSays) (p : Reached) (n : ℕ) (line : List ℕ) (t : Result Turn LineFault) (r : Result Turn Stop)
    → Turns n t r → Certifies kept reader heading p n
    → (t ≡ Ok turn.Taken → IsSound (kept_at heading kept) → IsSound (kept_at heading kept'))
    → (t ≡ Ok turn.Taken → IsSound (kept_at heading kept) → next_number (kept_at heading kept') ≡ suc (next_number (kept_at heading kept)))
    → (claims_by kept.part kept.claims.items ≡ kept.claims.items → claims_by kept'.part kept'.claims.items ≡ kept'.claims.items)
    → read.TakesLine n (kept_at heading kept) (kept_at heading kept') t (after_line n (kept_at heading kept) line)
    → FoldsLine reader (Certifies kept' reader heading) n p line r
certified-takes heading kept kept' reader p n line t r turns certifies sounds counts lists says =
    let at = certified-at heading kept kept' n line t r turns certifies.sound certifies.number sounds counts (lists certifies.listed) says in
    subst (λ (x : Reader Reached CertificateSays). FoldsLine x (Certifies kept' x heading) n p line r) (sym certifies.reader_is)
    (subst (λ (q : Reached). FoldsLine certificate_reader (Certifies kept' certificate_reader heading) n q line r)
    (sym certifies.is) at)

-- no line was taken yet
empty-at : (heading : Heading) (p : Part) (events : List Event) (claims : List Claim) → p ≡ part.Events → events ≡ []
    → reached_in heading p (reverse events) claims ≡ AtEvents heading []
empty-at heading p events claims begun none =
    ap (λ (q : Part). reached_in heading q (reverse events) claims) begun ∙ ap (λ (es : List Event). AtEvents heading (reverse es)) none

empty-listed : (p : Part) (claims : List Claim) → p ≡ part.Events → claims ≡ [] → claims_by p claims ≡ claims
empty-listed p claims begun none = ap (λ (q : Part). claims_by q claims) begun ∙ sym none

pub certifies-none : (heading : Heading) (kept : Kept) → heading_ok heading ≡ true → kept.part ≡ part.Events → kept.events.items ≡ []
    → kept.claims.items ≡ [] → Certifies kept certificate_reader heading (AtEvents heading []) 2
certifies-none heading kept ok begun none no_claims =
    let at = empty-at heading kept.part kept.events.items kept.claims.items begun none in
    let empty : AreRead heading [] [] = record {
      header = ok;
      events = λ e there. absurd (contains_none e there);
      few_events = omega arith;
      few_claims = omega arith;
    } in
    record {
      reader_is = refl;
      is = sym at;
      sound = subst IsSound (sym at) empty;
      number = ap next_number (sym at);
      listed = empty-listed kept.part kept.claims.items begun no_claims;
    }

-- few lines were taken
few-lines : (heading : Heading) (p : Part) (h : List Event) (claims : List Claim) (n : ℕ) → IsSound (reached_in heading p h claims)
    → n ≡ next_number (reached_in heading p h claims) → n < 4294967295
few-lines heading part.Events h claims n sound number = let few = sound.few_events in omega (arith, few, number)
few-lines heading part.BehindLog h claims n sound number = let few = sound.few_events in omega (arith, few, number)
few-lines heading part.Claims h claims n sound number =
    let few = sound.few_events in
    let less = sound.few_claims in
    omega (arith, few, less, number)

pub certified-few : (heading : Heading) (kept : Kept) (n : ℕ) → MayTakeLine (Certifies kept) heading n → n < 4294967295
certified-few heading kept n at = few-lines heading kept.part (reverse kept.events.items) kept.claims.items n at.2.sound at.2.number

-- what was read whole is what is kept
whole-kept : (heading : Heading) (p : Part) (h : List Event) (claims : List Claim) → claims_by p claims ≡ claims
    → whole_read (reached_in heading p h claims) ≡ Whole heading h claims
whole-kept heading part.Events h claims listed = ap (Whole heading h) listed
whole-kept heading part.BehindLog h claims listed = ap (Whole heading h) listed
whole-kept heading part.Claims h claims listed = refl

pub certified-whole : (heading : Heading) (kept : Kept) (reader : Reader Reached CertificateSays) (p : Reached) (n : ℕ) → Certifies kept reader heading p n
    → whole_read p ≡ Whole heading (reverse kept.events.items) kept.claims.items
certified-whole heading kept reader p n certifies =
    ap whole_read certifies.is ∙ whole-kept heading kept.part (reverse kept.events.items) kept.claims.items certifies.listed

sound-kept : (heading : Heading) (p : Part) (h : List Event) (claims : List Claim) → claims_by p claims ≡ claims
    → IsSound (reached_in heading p h claims) → AreRead heading h claims
sound-kept heading part.Events h claims listed sound = subst (AreRead heading h) listed sound
sound-kept heading part.BehindLog h claims listed sound = subst (AreRead heading h) listed sound
sound-kept heading part.Claims h claims listed sound = sound

pub certified-read : (heading : Heading) (kept : Kept) (reader : Reader Reached CertificateSays) (p : Reached) (n : ℕ) → Certifies kept reader heading p n
    → AreRead heading (reverse kept.events.items) kept.claims.items
certified-read heading kept reader p n certifies =
    sound-kept heading kept.part (reverse kept.events.items) kept.claims.items certifies.listed certifies.sound

-- ---- the line that is named

abbrev named_said : CertificateSays → Option ℕ
named_said (Stopped verdict) = named_line verdict
named_said (Whole heading h claims) = None

abbrev Names : ℕ → Turned Reached CertificateSays → Type 0
Names n t = NamedTurn named_said n t

names_item : (n : ℕ) (heading : Heading) (h : List Event) (r : Result Item Cause) → Names n (after_item n heading h r)
names_item n heading h (Ok (item.Event e label)) = named_if named_said n (nat_le event_limit (length h)) _ _ refl tt
names_item n heading h (Ok (item.End count)) = named_if named_said n (count == length h) _ _ tt refl
names_item n heading h (Err cause) = refl

names_first : (n : ℕ) (heading : Heading) (h : List Event) (r : Result (Unit {0}) Cause)
    → Names n (after_first n heading h r)
names_first n heading h (Ok u) = tt
names_first n heading h (Err cause) = refl

names_claim : (n : ℕ) (heading : Heading) (h : List Event) (claims : List Claim) (r : Result ClaimItem Cause)
    → Names n (after_claim_item n heading h claims r)
names_claim n heading h claims (Ok (claim_item.Claim claim)) =
    named_if named_said n (nat_le claim_limit (length claims)) _ _ refl tt
names_claim n heading h claims (Ok (claim_item.End count)) =
    named_if named_said n (count == length claims) _ _ tt refl
names_claim n heading h claims (Err cause) = refl

certifying-named : Named certifying named_said
unfolding certifying
certifying-named = record {
  line = λ n p line. elim p as (λ q. Names n (after_line n q line)) [
    | AtHeader ↦ named_header named_said n (λ heading. AtEvents heading []) Stopped (header_of line) (λ cause. refl)
    | AtEvents heading h ↦ names_item n heading h (item_of heading line)
    | BehindLog heading h ↦ names_first n heading h (certificate_of line)
    | AtClaims heading h claims ↦ names_claim n heading h claims (claim_of heading line)
    | AtEnd heading h claims ↦ refl
  ];
  long = λ n p. grind arith;
  cut = λ n p rest. grind arith;
}

certified_read_for : (says : CertificateSays) (read : Text) (unread : List ℕ) → ByName 1 (named_said says) read unread
    → CertifiedReadFor says read unread
certified_read_for (Stopped verdict) read unread f = read_for verdict read unread f
certified_read_for (Whole heading h claims) read unread f = f

-- what is left unread, where the rest was read
pub certified-read-to : (bytes : List ℕ) (left : Option (List ℕ)) → left ≡ Some (read_of bytes).unread
    → ReadAs (CertifiedReadFor (read_of bytes).says) bytes left
certified-read-to bytes left is =
    let o = read_of bytes in
    let k = read-by certifying named_said certifying-named AtHeader bytes in
    (k.0, o.unread, k.1, is, certified_read_for o.says (text_of k.0) o.unread k.2)

-- ---- no line accepts anything

abbrev pub NotAccepted : CertificateSays → Type 0
NotAccepted (Stopped (Accepted events)) = ⊥
NotAccepted _ = Unit {0}

named-none : (n : ℕ) (says : CertificateSays) → named_said says ≡ Some n → NotAccepted says
named-none n (Stopped (Accepted events)) named = cc
named-none n (Stopped (Refused line rule at label)) named = tt
named-none n (Stopped (Malformed line cause)) named = tt
named-none n (Stopped (Limit line which)) named = tt
named-none n (Whole heading h claims) named = tt

turn-none : (n : ℕ) (t : Turned Reached CertificateSays) → Names n t → TurnsBy (λ (q : Reached). Unit {0}) NotAccepted t
turn-none n (Halts says) named = named-none n says named
turn-none n (Passes q) named = tt

cut-none : (n : ℕ) (p : Reached) (rest : List ℕ) → NotAccepted (cut_at n p rest)
cut-none n AtHeader rest = tt
cut-none n (AtEvents heading h) rest = tt
cut-none n (BehindLog heading h) rest = tt
cut-none n (AtClaims heading h claims) rest = tt
cut-none n (AtEnd heading h claims) [] = tt
cut-none n (AtEnd heading h claims) (b ∷ rest) = tt

end-none : (n : ℕ) (p : Reached) (rest : List ℕ) → NotAccepted (end_by certifying n p rest)
unfolding end_by certifying
end-none n p rest = by (is_too_long rest)
  where
    by : (b : Bool) → NotAccepted (if b then Stopped (too_long_at n p) else cut_at n p rest)
    by true = named-none n (Stopped (too_long_at n p)) (certifying-named.long n p)
    by false = cut-none n p rest

pub not-accepted : (bytes : List ℕ) → NotAccepted (read_of bytes).says
not-accepted bytes = said_of certifying (λ (q : Reached). Unit {0}) NotAccepted
    (λ n p l read. turn-none n (turned_by certifying n p l) (named_turned certifying named_said certifying-named n p l))
    (λ n p rest read. end-none n p rest) 1 AtHeader (text_of bytes).lines (text_of bytes).rest tt
