-- What is asked of a log while its certificate is made, event by event as it is kept. Lists of events are oldest first
-- here. No public contract cites these words. Source: project's own choice.
use Rattle.std.specs.Prelude.{◌≡◌, ◌⊎◌, ℕ, ◌+◌, ◌<◌, ◌≤◌, Bool, true, false, ◌&&◌, ◌||◌, not, List, [], ◌∷◌, ◌++◌}
use Rattle.std.specs.Prelude.{length, Option, Some, None}
use Rattle.bbm_tlbi_scope.specs.declared.entry.Cover.{Cover}
use Rattle.bbm_tlbi_scope.specs.declared.entry.Cover.TheVariants.{Half, Second, Full}
use Rattle.bbm_events.specs.declared.claim.Claim.{Claim}
use Rattle.bbm_events.specs.declared.claim.Claim.TheVariants.{Place, Two, Taken}
use Rattle.bbm_rules.specs.Cleansing.{same_cover, writes}
use Rattle.bbm_rules.specs.Claims.Trust.{Patterns}
use Rattle.bbm_rules.specs.Lists.{any}
use Rattle.bbm_rules.specs.Notes.{Noted}
use Rattle.bbm_rules.specs.PatternSentences.{OneStep}
use Rattle.bbm_rules.specs.Prelude.{Barrier, Heading, Event, Dsb}
use Rattle.bbm_rules.specs.Reach.{completes, reaches}
use Rattle.bbm_rules.specs.Sentences.{issues}
use Rattle.bbm_rules.specs.Values.{publishes_to}
use Rattle.bbm_oracle_patterns.specs.Kept.{cover_in}
use Rattle.bbm_oracle_patterns.specs.declared.kept.Kept.{Kept}
use Rattle.bbm_claims.specs.Flushes.{completed_by, is_flush_of}
use Rattle.bbm_certify.specs.LeastClaims.{IsLeast, OneAt, TwoAt}
use Rattle.bbm_certify.specs.declared.patterns.Ends.{Ends}
use Rattle.bbm_certify.specs.declared.patterns.Halves.{Halves}
use Rattle.bbm_certify.specs.declared.patterns.Pattern.{Pattern}
use Rattle.bbm_certify.specs.declared.patterns.Pattern.TheVariants.{One, Two as Both}

-- ---- searches

-- The test has the events before one, the event, and those behind it. It holds of none with an index from lo on and below
-- hi; and it holds of the one with this index.
abbrev pub NoneBelow : (List Kept → Kept → List Kept → Bool) → ℕ → ℕ → List Kept → Type 0
NoneBelow test lo hi log = (before after : List Kept) (k : Kept) → log ≡ before ++ k ∷ after → lo ≤ length before
    → length before < hi → test before k after ≡ false

abbrev pub HoldsAt : (List Kept → Kept → List Kept → Bool) → ℕ → List Kept → Type 0
HoldsAt test i log = (before after : List Kept) (k : Kept) → log ≡ before ++ k ∷ after → length before ≡ i
    → test before k after ≡ true

-- the first index from lo on where it holds
abbrev pub IsFirst : (List Kept → Kept → List Kept → Bool) → ℕ → List Kept → Option ℕ → Type 0
IsFirst test lo log None = NoneBelow test lo (length log) log
IsFirst test lo log (Some i) = (lo ≤ i) × (i < length log) × HoldsAt test i log × NoneBelow test lo i log

-- ---- tests

-- the event is a TLBI that covers the place in full, or the rest of it
abbrev pub covers_rest : ℕ → Kept → Bool
covers_rest place k = same_cover (cover_in k.covers.items place) Full || same_cover (cover_in k.covers.items place) Second

-- such a TLBI of q that this barrier of q completes
abbrev pub may_finish : ℕ → Barrier → ℕ → Kept → Bool
may_finish q dsb place k = issues q k.event && (completes dsb k.event && covers_rest place k)

-- and behind it came these events, and then one that answers it
abbrev pub finishes : ℕ → Event → Kept → List Kept → Bool
finishes place (Dsb q dsb) k later = may_finish q dsb place k && not (any (completed_by q k.event) later)
finishes place _ k later = false

-- such a TLBI in a log behind which this event comes
abbrev pub finishing : ℕ → Event → List Kept → Kept → List Kept → Bool
finishing place e before k after = finishes place e k after

module _ (heading : Heading) (place p : ℕ) where
  -- the event publishes to p a write of the place that is among those before it
  abbrev pub publishes : Event → List Kept → Bool
  publishes (Dsb q dsb) before = publishes_to heading dsb q p && any (λ k. writes q place k.event) before
  publishes _ before = false

  abbrev pub publishing : List Kept → Kept → List Kept → Bool
  publishing before k after = publishes k.event before

  -- it is a TLBI that reaches p and covers the place so far
  abbrev pub flushes : Cover → Kept → Bool
  flushes cover k = reaches heading k.event p && same_cover (cover_in k.covers.items place) cover

  -- and behind it came these events, and then one that answers it
  abbrev pub answers : Cover → Event → Kept → List Kept → Bool
  answers cover (Dsb q dsb) k later = is_flush_of heading q dsb cover place p k && not (any (completed_by q k.event) later)
  answers cover _ k later = false

  -- such a TLBI in a log behind which this event comes
  abbrev pub waiting : Cover → Event → List Kept → Kept → List Kept → Bool
  waiting cover e before k after = answers cover e k after

  -- the answer to such a TLBI, which covers the place half and stands before these events
  abbrev pub answering : Kept → List Kept → Kept → List Kept → Bool
  answering tlbi before k after = answers Half k.event tlbi before

  module _ (e : Event) where
    -- The TLBI covers the place half and is answered behind so many of the later events; and behind as many more as told
    -- there stands a TLBI that covers the rest and that e answers, which comes behind them all.
    pub record Begins (tlbi : Kept) (later : List Kept) (wait gap : ℕ) : Type 0 where
      pub mid : List Kept
      pub between : List Kept
      pub after : List Kept
      pub d : Kept
      pub t : Kept
      pub split : later ≡ mid ++ d ∷ (between ++ t ∷ after)
      pub first : answers Half d.event tlbi mid ≡ true
      pub second : answers Second e t after ≡ true
      pub waits : length mid ≡ wait
      pub gaps : length between ≡ gap

    -- the least such numbers
    abbrev pub AreEnds : Kept → List Kept → Option Ends → Type 0
    AreEnds tlbi later None = (wait gap : ℕ) → Begins tlbi later wait gap → ⊥
    AreEnds tlbi later (Some ends) = Begins tlbi later ends.wait ends.gap
        × ((wait gap : ℕ) → Begins tlbi later wait gap → (wait ≡ ends.wait) × (ends.gap ≤ gap))

    -- the same of the TLBI of this index in a log
    pub record BeginsAt (log : List Kept) (i wait gap : ℕ) : Type 0 where
      pub before : List Kept
      pub tlbi : Kept
      pub later : List Kept
      pub split : log ≡ before ++ tlbi ∷ later
      pub at : length before ≡ i
      pub begins : Begins tlbi later wait gap

    -- the first from lo on, with the least such numbers
    abbrev pub NoHalves : ℕ → ℕ → List Kept → Type 0
    NoHalves lo hi log = (i wait gap : ℕ) → lo ≤ i → i < hi → BeginsAt log i wait gap → ⊥

    abbrev pub AreHalves : ℕ → List Kept → Option Halves → Type 0
    AreHalves lo log None = NoHalves lo (length log) log
    AreHalves lo log (Some h) = (lo ≤ h.t) × BeginsAt log h.t h.ends.wait h.ends.gap × NoHalves lo h.t log
        × ((wait gap : ℕ) → BeginsAt log h.t wait gap → (wait ≡ h.ends.wait) × (h.ends.gap ≤ gap))

    -- ---- patterns

    -- the least pattern behind the publication of index b
    abbrev pub IsPatternBehind : List Kept → ℕ → Option Pattern → Type 0
    IsPatternBehind log b None = IsFirst (waiting Full e) (b + 1) log None × AreHalves (b + 1) log None
    IsPatternBehind log b (Some (One c t)) = (c ≡ b) × IsFirst (waiting Full e) (b + 1) log (Some t)
    IsPatternBehind log b (Some (Both c h)) = (c ≡ b) × IsFirst (waiting Full e) (b + 1) log None
        × AreHalves (b + 1) log (Some h)

    -- the least pattern
    abbrev pub IsPattern : List Kept → Option Pattern → Type 0
    IsPattern log found = (IsFirst publishing 0 log None × (found ≡ None))
        ⊎ ((b : ℕ) × IsFirst publishing 0 log (Some b) × IsPatternBehind log b found)

-- ---- claims

-- the pattern is one of a log with so many events
abbrev pub IsInside : ℕ → Pattern → Type 0
IsInside count (One b t) = (b < count) × (t < count)
IsInside count (Both b h) = (b < count) × (h.t + h.ends.wait + h.ends.gap + 2 < count)

-- the claim with its positions
abbrev pub claim_of : ℕ → ℕ → ℕ → ℕ → Pattern → Claim
claim_of p place before count (One b t) = Place p place (before + b + 1) (before + t + 1) (before + count + 1)
claim_of p place before count (Both b h) = Two p place (before + b + 1) (before + h.t + 1)
    (before + h.t + 1 + h.ends.wait + 1) (before + h.t + 1 + h.ends.wait + 1 + h.ends.gap + 1) (before + count + 1)

-- the claim of a place that is cleansed at p by these events, since its last valid write: in one step where it is so, and
-- with the least positions
abbrev pub IsLeastClaim : Heading → ℕ → ℕ → List Noted → Claim → Type 0
IsLeastClaim heading place p since (Place r a b t d) = (r ≡ p) × (a ≡ place)
    × IsLeast (OneAt heading place p since) (b ∷ t ∷ d ∷ [])
IsLeastClaim heading place p since (Two r a b t1 d1 t2 d2) = (r ≡ p) × (a ≡ place)
    × (OneStep heading Patterns place p since → ⊥)
    × IsLeast (TwoAt heading place p since) (b ∷ t1 ∷ d1 ∷ t2 ∷ d2 ∷ [])
IsLeastClaim heading place p since (Taken r tag t d) = ⊥
