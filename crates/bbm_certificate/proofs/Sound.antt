-- The events that are read from lines fit the header of the first line, and aren't more than the limits.
use Rattle.bbm_rules.proofs.Common.{◌≡◌, ℕ, suc, ◌<◌, ◌==◌, Bool, true, false, if◌then◌else◌, nat_le, List, [], ◌∷◌}
use Rattle.bbm_rules.proofs.Common.{◌++◌, length, reverse, Contains, Result, Ok, Err, refl, subst, arith, inl, inr}
use Rattle.bbm_rules.proofs.Common.{slice_index_or, and_parts, leb-false, get_or_default, reverse-append, In}
use Rattle.bbm_rules.proofs.Common.{from_contains, to_contains, in_left, in_right, Claim, Item, fits_heading}
use Rattle.bbm_rules.proofs.Common.{label_fits, heading_ok, is_too_long, text_of}
use Rattle.std.proofs.Common.{All}
use Rattle.std.proofs.lemmas.List.{length-append}
use Rattle.bbm_events.specs.declared.certificate.ClaimItem.{ClaimItem}
use Rattle.bbm_events.specs.declared.certificate.ClaimItem.TheVariants as claim_item
use Rattle.bbm_events.specs.declared.event.Event.{Event}
use Rattle.bbm_events.specs.declared.event.Item.TheVariants as item
use Rattle.bbm_regimes.specs.declared.regime.Which.TheVariants.{Events, Claims}
use Rattle.bbm_events.specs.declared.malformed.Malformed.{Malformed as Cause}
use Rattle.bbm_rules.specs.declared.verdict.Verdict.TheVariants.{Limit}
use Rattle.bbm_events.specs.Certificate.{certificate_of, claim_of}
use Rattle.bbm_events.specs.Heading.{Heading}
use Rattle.bbm_events.specs.LineLaws.{LineLaws}
use Rattle.bbm_events.specs.Lines.{header_of, item_of}
use Rattle.bbm_rules.proofs.Common.{Halts, Passes, Turned, header_by}
use Rattle.bbm_rules.proofs.Folds.{Turns as Goes, said_of}
use Rattle.bbm_rules.specs.Fold.{end_by, turned_by}
use Rattle.bbm_certificate.specs.CertificateReading.{AreRead, AtClaims, AtEnd, AtEvents, AtHeader, BehindLog, IsSound}
use Rattle.bbm_certificate.specs.CertificateReading.{Reached, CertificateSays, Stopped, Whole, after_claim}
use Rattle.bbm_certificate.specs.CertificateReading.{after_claim_item, after_claims, after_event, after_first}
use Rattle.bbm_certificate.specs.CertificateReading.{after_item, after_line, after_log, certifying, claim_limit, cut_at}
use Rattle.bbm_certificate.specs.CertificateReading.{event_limit, next_number, read_of, too_long_at}

-- what is read whole is sound
abbrev SoundlySaid : CertificateSays → Type 0
SoundlySaid (Stopped verdict) = Unit {0}
SoundlySaid (Whole heading h cs) = AreRead heading h cs

-- what is kept after a line is sound, and one line longer
abbrev pub Turns : Reached → Turned Reached CertificateSays → Type 0
Turns p (Halts v) = SoundlySaid v
Turns p (Passes q) = IsSound q × (next_number q ≡ suc (next_number p))

turns_if : (p : Reached) (b : Bool) (s t : Turned Reached CertificateSays) → Turns p s → Turns p t → Turns p (if b then s else t)
turns_if p true s t first second = first
turns_if p false s t first second = second

one_more : (heading : Heading) (h : List Event) (event : Event)
    → ((e : Event) → Contains h e → fits_heading heading e ≡ true)
    → fits_heading heading event ≡ true → (e : Event) → Contains (event ∷ h) e → fits_heading heading e ≡ true
one_more heading h event events fits e there = by (from_contains (event ∷ h) e there)
  where
    by : In (event ∷ h) e → fits_heading heading e ≡ true
    by (inl same) = subst (λ (y : Event). fits_heading heading y ≡ true) same fits
    by (inr older) = events e (to_contains h e older)

no_events : (heading : Heading) → heading_ok heading ≡ true → AreRead heading [] []
no_events heading ok = record {
  header = ok;
  events = λ e there. absurd (from_contains [] e there);
  few_events = omega arith;
  few_claims = omega arith;
}

event_turns : (n : ℕ) (heading : Heading) (h : List Event) (event : Event) → AreRead heading h []
    → fits_heading heading event ≡ true
    → Turns (AtEvents heading h) (after_event n heading h event)
event_turns n heading h event read fits = by (nat_le event_limit (length h)) refl
  where
    by : (b : Bool) → nat_le event_limit (length h) ≡ b
        → Turns (AtEvents heading h) (if b then Halts (Stopped (Limit n Events))
        else Passes (AtEvents heading (event ∷ h)))
    by true is = tt
    by false is =
        let less : length h < event_limit = leb-false event_limit (length h) is in (
          record {
            header = read.header;
            events = one_more heading h event read.events fits;
            few_events = omega (arith, less);
            few_claims = omega arith;
          },
          omega arith,
        )

log_turns : (n : ℕ) (heading : Heading) (h : List Event) (count : ℕ) → AreRead heading h []
    → Turns (AtEvents heading h) (after_log n heading h count)
log_turns n heading h count read = turns_if (AtEvents heading h) (count == length h) _ _ (read, omega arith) tt

claim_turns : (n : ℕ) (heading : Heading) (h : List Event) (cs : List Claim) (claim : Claim) → AreRead heading h cs
    → Turns (AtClaims heading h cs) (after_claim n heading h cs claim)
claim_turns n heading h cs claim read = by (nat_le claim_limit (length cs)) refl
  where
    by : (b : Bool) → nat_le claim_limit (length cs) ≡ b
        → Turns (AtClaims heading h cs) (if b then Halts (Stopped (Limit n Claims))
        else Passes (AtClaims heading h (cs ++ claim ∷ [])))
    by true is = tt
    by false is =
        let less : length cs < claim_limit = leb-false claim_limit (length cs) is in
        let longer = length-append cs (claim ∷ []) in (
          record {
            header = read.header;
            events = read.events;
            few_events = read.few_events;
            few_claims = omega (arith, less, longer);
          },
          omega (arith, longer),
        )

claims_turn : (n : ℕ) (heading : Heading) (h : List Event) (cs : List Claim) (count : ℕ) → AreRead heading h cs
    → Turns (AtClaims heading h cs) (after_claims n heading h cs count)
claims_turn n heading h cs count read =
    turns_if (AtClaims heading h cs) (count == length cs) _ _ (read, omega arith) tt

claim_item_turns : (n : ℕ) (heading : Heading) (h : List Event) (cs : List Claim) (r : Result ClaimItem Cause)
    → AreRead heading h cs
    → Turns (AtClaims heading h cs) (after_claim_item n heading h cs r)
claim_item_turns n heading h cs (Ok (claim_item.Claim claim)) read = claim_turns n heading h cs claim read
claim_item_turns n heading h cs (Ok (claim_item.End count)) read = claims_turn n heading h cs count read
claim_item_turns n heading h cs (Err cause) read = tt

first_turns : (n : ℕ) (heading : Heading) (h : List Event) (r : Result (Unit {0}) Cause) → AreRead heading h []
    → Turns (BehindLog heading h) (after_first n heading h r)
first_turns n heading h (Ok u) read = (read, omega arith)
first_turns n heading h (Err cause) read = tt

module _ (laws : LineLaws) where
  item_turns : (n : ℕ) (heading : Heading) (h : List Event) (line : List ℕ) (r : Result Item Cause)
      → item_of heading line ≡ r → AreRead heading h []
      → Turns (AtEvents heading h) (after_item n heading h r)
  item_turns n heading h line (Ok (item.Event event label)) is read =
      event_turns n heading h event read (and_parts (fits_heading heading event) (label_fits heading.version label)
      (laws.item heading line (item.Event event label) is)).0
  item_turns n heading h line (Ok (item.End count)) is read = log_turns n heading h count read
  item_turns n heading h line (Err cause) is read = tt

  header_turns : (n : ℕ) (line : List ℕ) (r : Result Heading Cause) → header_of line ≡ r
      → Turns AtHeader (header_by (λ heading. AtEvents heading []) Stopped n r)
  header_turns n line (Ok heading) is = (no_events heading (laws.header line heading is), refl)
  header_turns n line (Err cause) is = tt

  line_turns : (n : ℕ) (p : Reached) (line : List ℕ) → IsSound p → Turns p (after_line n p line)
  line_turns n AtHeader line sound = header_turns n line (header_of line) refl
  line_turns n (AtEvents heading h) line sound = item_turns n heading h line (item_of heading line) refl sound
  line_turns n (BehindLog heading h) line sound = first_turns n heading h (certificate_of line) sound
  line_turns n (AtClaims heading h cs) line sound = claim_item_turns n heading h cs (claim_of heading line) sound
  line_turns n (AtEnd heading h cs) line sound = tt

  -- a line that was taken
  pub taken_sound : (n : ℕ) (p q : Reached) (line : List ℕ) → after_line n p line ≡ Passes q → IsSound p
      → IsSound q × (next_number q ≡ suc (next_number p))
  taken_sound n p q line is sound = subst (λ (t : Turned Reached CertificateSays). Turns p t) is (line_turns n p line sound)

  cut_sound : (n : ℕ) (p : Reached) (rest : List ℕ) → IsSound p → SoundlySaid (cut_at n p rest)
  cut_sound n AtHeader rest sound = tt
  cut_sound n (AtEvents heading h) rest sound = tt
  cut_sound n (BehindLog heading h) rest sound = tt
  cut_sound n (AtClaims heading h cs) rest sound = tt
  cut_sound n (AtEnd heading h cs) [] sound = sound
  cut_sound n (AtEnd heading h cs) (b ∷ rest) sound = tt

  end_sound : (n : ℕ) (p : Reached) (rest : List ℕ) → IsSound p → SoundlySaid (end_by certifying n p rest)
  unfolding end_by certifying
  end_sound n p rest sound = by (is_too_long rest)
    where
      by : (b : Bool) → SoundlySaid (if b then Stopped (too_long_at n p) else cut_at n p rest)
      by true = tt
      by false = cut_sound n p rest sound

  sound_then : (p : Reached) (t : Turned Reached CertificateSays) → Turns p t → Goes IsSound SoundlySaid t
  sound_then p (Halts v) turns = turns
  sound_then p (Passes q) turns = turns.0

  turned_sound : (n : ℕ) (p : Reached) (line : List ℕ) → IsSound p
      → Goes IsSound SoundlySaid (turned_by certifying n p line)
  unfolding turned_by certifying
  turned_sound n p line sound =
      sound_then p _ (turns_if p (is_too_long line) (Halts (Stopped (too_long_at n p))) (after_line n p line) tt
      (line_turns n p line sound))

  -- what is read whole is sound
  pub read_sound : (bytes : List ℕ) (heading : Heading) (h : List Event) (cs : List Claim)
      → (read_of bytes).says ≡ Whole heading h cs → AreRead heading h cs
  read_sound bytes heading h cs is = subst SoundlySaid is
      (said_of certifying IsSound SoundlySaid turned_sound end_sound 1 AtHeader (text_of bytes).lines
      (text_of bytes).rest tt)

-- the events as they are kept, the oldest first
in_reversed : (events : List Event) (e : Event) → In events e → In (reverse events) e
in_reversed [] e there = absurd there
in_reversed (x ∷ events) e (inl same) =
    rw (reverse-append (x ∷ []) events) (in_right (reverse events) (x ∷ []) e (inl same))
in_reversed (x ∷ events) e (inr later) =
    rw (reverse-append (x ∷ []) events) (in_left (reverse events) (x ∷ []) e (in_reversed events e later))

pub kept_fit : (heading : Heading) (events : List Event)
    → ((e : Event) → Contains (reverse events) e → fits_heading heading e ≡ true)
    → All (λ e. fits_heading heading e ≡ true) events
kept_fit heading events fit k d below =
    fit (slice_index_or events k d)
    (to_contains (reverse events) (slice_index_or events k d)
    (in_reversed events (slice_index_or events k d)
    (from_contains events (slice_index_or events k d) (
      k,
      below,
      get_or_default events k
          (slice_index_or events k d) d below,
    ))))
