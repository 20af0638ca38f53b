-- What the laws of seen, half, cleansed and held state: that what computes says the same as a sentence. Source:
-- project's own choice.
use Rattle.std.specs.Prelude.{◌≡◌, ℕ, ◌%◌, ◌<◌, ◌⊎◌, true, false, List, ◌∷◌, ◌++◌, Some}
use Rattle.bbm_descriptor.specs.Descriptor.{is_valid}
use Rattle.bbm_rules.specs.Prelude.{Barrier, Heading, Kind, Init, Write, Dsb}
use Rattle.bbm_rules.specs.Claims.{Trust}
use Rattle.bbm_rules.specs.Cleansing.{cleansed, half, seen}
use Rattle.bbm_rules.specs.Held.{ValidWrite, emptied, held, last_valid}
use Rattle.bbm_rules.specs.Notes.{Noted, events_of}
use Rattle.bbm_rules.specs.PatternSentences.{Cleansed, Emptied, EmptyAbove, Holds, IsHalf, IsLastValid, Seen}
use Rattle.bbm_rules.specs.Places.{page_of}
use Rattle.bbm_rules.specs.Values.{value_of}

-- A place is seen exactly where some write of it is published to the PE.
pub record SeenBySentence (heading : Heading) : Type 0 where
  pub sound : (place p : ℕ) (since : List Noted) → seen heading place p since ≡ true → Seen heading place p since
  pub complete : (place p : ℕ) (since : List Noted) → Seen heading place p since → seen heading place p since ≡ true

-- A place is half exactly where a write of it is published to the PE, after that a TLBI that reaches the PE and covers
-- it half is issued, and that TLBI is answered.
pub record HalfBySentence (heading : Heading) : Type 0 where
  pub sound : (place p : ℕ) (since : List Noted) → half heading place p since ≡ true → IsHalf heading place p since
  pub complete : (place p : ℕ) (since : List Noted) → IsHalf heading place p since → half heading place p since ≡ true

-- A place is cleansed exactly where one of the two patterns stands after its last valid write, in one step or in two,
-- at positions that are trusted.
pub record CleansedBySentence (heading : Heading) (trust : Trust) : Type 0 where
  pub sound : (place p : ℕ) (since : List Noted) → cleansed heading trust place p since ≡ true
      → Cleansed heading trust place p since
  pub complete : (place p : ℕ) (since : List Noted) → Cleansed heading trust place p since
      → cleansed heading trust place p since ≡ true

-- The last valid write of a place is what the sentence says. Where the present value is valid it is the value of that
-- write, and no write came after it. A valid value has bit 0 set.
pub record LastValidBySentence : Type 0 where
  pub sound : (kind : Kind) (level place : ℕ) (h : List Noted) (w : ValidWrite) → last_valid kind level place h ≡ Some w
      → IsLastValid kind level place h w
  pub complete : (kind : Kind) (level place : ℕ) (h : List Noted) (w : ValidWrite) → IsLastValid kind level place h w
      → last_valid kind level place h ≡ Some w
  pub live : (kind : Kind) (level place : ℕ) (h : List Noted) → is_valid kind level (value_of (events_of h) place)
      ≡ true → (w : ValidWrite) × (last_valid kind level place h ≡ Some w) × (w.value ≡ value_of (events_of h) place)
      × ((q v : ℕ) (n : Noted) (after before : List Noted) → w.since ≡ after ++ n ∷ before → n.event ≡ Write q place v
      → ⊥)
  pub odd : (kind : Kind) (level value : ℕ) → is_valid kind level value ≡ true → value % 2 ≡ 1

-- A place holds a value exactly where the value was written and is valid, and since then there was no valid write of
-- the place and no init of its page, and at some PE the place isn't cleansed, and it isn't emptied. So what is held is
-- valid; and where the present value is valid, that is what is held. A place is emptied exactly where the sentence says
-- so. An emptied place is seen at every PE since its last valid write; it comes to be emptied by a DSB after which it is
-- empty and above; and it stays emptied until a valid write of it or an init of its page.
pub record HeldBySentence (heading : Heading) (trust : Trust) : Type 0 where
  pub sound : (kind : Kind) (level place : ℕ) (h : List Noted) (value : ℕ)
      → held heading trust kind level place h ≡ Some value → Holds heading trust kind level place h value
  pub complete : (kind : Kind) (level place : ℕ) (h : List Noted) (value : ℕ)
      → Holds heading trust kind level place h value → held heading trust kind level place h ≡ Some value
  pub valid : (kind : Kind) (level place : ℕ) (h : List Noted) (value : ℕ)
      → held heading trust kind level place h ≡ Some value → is_valid kind level value ≡ true
  pub live : (kind : Kind) (level place : ℕ) (h : List Noted) → 0 < heading.pes
      → is_valid kind level (value_of (events_of h) place) ≡ true
      → held heading trust kind level place h ≡ Some (value_of (events_of h) place)
  pub emptied_sound : (kind : Kind) (level place : ℕ) (h : List Noted) → emptied heading trust kind level place h ≡ true
      → Emptied heading trust kind level place h
  pub emptied_complete : (kind : Kind) (level place : ℕ) (h : List Noted)
      → Emptied heading trust kind level place h → emptied heading trust kind level place h ≡ true
  pub emptied_seen : (kind : Kind) (level place : ℕ) (h : List Noted) (w : ValidWrite) (p : ℕ) → p < heading.pes
      → emptied heading trust kind level place h ≡ true → last_valid kind level place h ≡ Some w
      → seen heading place p w.since ≡ true
  pub emptied_step : (kind : Kind) (level place : ℕ) (n : Noted) (h : List Noted)
      → emptied heading trust kind level place (n ∷ h) ≡ true → (emptied heading trust kind level place h ≡ true)
      ⊎ ((q : ℕ) × (dsb : Barrier) × (n.event ≡ Dsb q dsb) × EmptyAbove heading trust kind level place (n ∷ h))
  pub emptied_stays : (kind : Kind) (level place : ℕ) (n : Noted) (h : List Noted)
      → ((q v : ℕ) → n.event ≡ Write q place v → is_valid kind level v ≡ false)
      → ((q : ℕ) → n.event ≡ Init q (page_of place) → ⊥)
      → emptied heading trust kind level place h ≡ true → emptied heading trust kind level place (n ∷ h) ≡ true
