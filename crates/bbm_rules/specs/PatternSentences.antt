-- Seen, half, cleansed and held once more, as sentences over all ways to split the annotated history. `law_seen`,
-- `law_half`, `law_cleansed` and `law_held` say that they say the same. A history is newest first, so in
-- `newer ++ older` the events of `newer` came after those of `older`; and `since` are those after the last valid write.
-- Source: Arm ARM (DDI 0487), "Using break-before-make when updating translation table entries", and "TLB
-- maintenance instructions".
use Rattle.std.specs.Prelude.{◌≡◌, ℕ, suc, ◌<◌, ◌⊎◌, true, false, List, ◌∷◌, ◌++◌, map, Some, None}
use Rattle.bbm_descriptor.specs.Descriptor.{is_valid}
use Rattle.bbm_tlbi_scope.specs.declared.entry.Cover.{Cover}
use Rattle.bbm_tlbi_scope.specs.declared.entry.Cover.TheVariants.{Half, Second, Full}
use Rattle.bbm_rules.specs.Prelude.{Barrier, Kind, Heading, Init, Write, Dsb}
use Rattle.bbm_events.specs.declared.claim.Claim.TheVariants.{Place, Two}
use Rattle.bbm_rules.specs.Claims.{Trust, allows}
use Rattle.bbm_rules.specs.Held.{ValidWrite, emptied, empties_tables, held, last_valid}
use Rattle.bbm_rules.specs.Next.{next_of}
use Rattle.bbm_rules.specs.Notes.{Noted, event_of, topped}
use Rattle.bbm_rules.specs.Places.{page_of}
use Rattle.bbm_rules.specs.Reach.{Issued, completes, reaches}
use Rattle.bbm_rules.specs.Sentences.{Open}
use Rattle.bbm_rules.specs.Values.{publishes_to}

-- b is a barrier of the PE q that publishes to p, and before it q wrote the place
pub record Publication (heading : Heading) (place p : ℕ) (since : List Noted) (b : Noted) : Type 0 where
  pub q : ℕ
  pub dsb : Barrier
  pub value : ℕ
  pub write : Noted
  pub newer : List Noted
  pub between : List Noted
  pub older : List Noted
  pub split : since ≡ newer ++ b ∷ (between ++ write ∷ older)
  pub wrote : write.event ≡ Write q place value
  pub barrier : b.event ≡ Dsb q dsb
  pub publishes : publishes_to heading dsb q p ≡ true

-- Seen: some write of the place is published to p.
abbrev pub Seen : Heading → ℕ → ℕ → List Noted → Type 0
Seen heading place p since = (b : Noted) × Publication heading place p since b

-- d is a barrier that answers the TLBI t: the first of its issuer q that completes it
pub record Answer (since : List Noted) (t : Issued Noted) (d : Noted) : Type 0 where
  pub q : ℕ
  pub dsb : Barrier
  pub newer : List Noted
  pub older : List Noted
  pub split : since ≡ newer ++ d ∷ older
  pub barrier : d.event ≡ Dsb q dsb
  pub is_open : Open event_of q older t
  pub completed : completes dsb t.tlbi.event ≡ true

-- t is a TLBI that reaches p and covers the place so far, and d answers it
pub record Flush (heading : Heading) (cover : Cover) (place p : ℕ) (since : List Noted) (t : Issued Noted) (d : Noted)
    : Type 0 where
  pub answer : Answer since t d
  pub reached : reaches heading t.tlbi.event p ≡ true
  pub covered : t.tlbi.covers place ≡ cover

-- Half, by b, t and d: a write of the place is published to p at b, then at t a TLBI that covers it half is issued, and
-- at d it is answered.
pub record HalfBy (heading : Heading) (place p : ℕ) (since : List Noted) (b : Noted) (t : Issued Noted) (d : Noted)
    : Type 0 where
  pub flush : Flush heading Half place p since t d
  pub published : Publication heading place p t.before b

abbrev pub IsHalf : Heading → ℕ → ℕ → List Noted → Type 0
IsHalf heading place p since = (b : Noted) × (t : Issued Noted) × (d : Noted) × HalfBy heading place p since b t d

-- Cleansed in one step: a write of the place is published to p at b, then at t a TLBI that covers it in full is issued,
-- and at d it is answered.
pub record OneStep (heading : Heading) (trust : Trust) (place p : ℕ) (since : List Noted) : Type 0 where
  pub b : Noted
  pub t : Issued Noted
  pub d : Noted
  pub published : Publication heading place p t.before b
  pub flush : Flush heading Full place p since t d
  pub allowed : allows trust (Place p place b.position t.tlbi.position d.position) ≡ true

-- Cleansed in two steps: the place is half by b, t1 and d1, and then at t2 a TLBI that covers the rest is issued, and
-- at d2 it is answered.
pub record TwoSteps (heading : Heading) (trust : Trust) (place p : ℕ) (since : List Noted) : Type 0 where
  pub b : Noted
  pub t1 : Issued Noted
  pub d1 : Noted
  pub t2 : Issued Noted
  pub d2 : Noted
  pub first : HalfBy heading place p t2.before b t1 d1
  pub second : Flush heading Second place p since t2 d2
  pub allowed : allows trust (Two p place b.position t1.tlbi.position d1.position t2.tlbi.position d2.position) ≡ true

abbrev pub Cleansed : Heading → Trust → ℕ → ℕ → List Noted → Type 0
Cleansed heading trust place p since = OneStep heading trust place p since ⊎ TwoSteps heading trust place p since

-- Last valid write: it gave the place this value, which is valid, and after it came these events, none of them a valid
-- write of the place nor an init of its page.
pub record IsLastValid (kind : Kind) (level place : ℕ) (h : List Noted) (w : ValidWrite) : Type 0 where
  pub pe : ℕ
  pub write : Noted
  pub older : List Noted
  pub split : h ≡ w.since ++ write ∷ older
  pub wrote : write.event ≡ Write pe place w.value
  pub valid : is_valid kind level w.value ≡ true
  pub last : (q v : ℕ) (n : Noted) (after before : List Noted) → w.since ≡ after ++ n ∷ before
      → n.event ≡ Write q place v → is_valid kind level v ≡ false
  pub no_init : (q : ℕ) (n : Noted) (after before : List Noted) → w.since ≡ after ++ n ∷ before
      → n.event ≡ Init q (page_of place) → ⊥

-- No TLB of p keeps an entry that ends in the last valid value of the place: it is cleansed, with the top cover of each
-- TLBI in the place of its cover.
abbrev pub IsAbove : Heading → Trust → ℕ → ℕ → List Noted → Type 0
IsAbove heading trust place p since = Cleansed heading trust place p (map topped since)

-- The last valid value of the place is a table, at every PE the place is above, and no place of the table's next page
-- holds anything.
pub record EmptyAbove (heading : Heading) (trust : Trust) (kind : Kind) (level place : ℕ) (h : List Noted) : Type 0 where
  pub w : ValidWrite
  pub is_last : last_valid kind level place h ≡ Some w
  pub next : ℕ
  pub table : next_of kind level w.value ≡ Some next
  pub above : (p : ℕ) → p < heading.pes → IsAbove heading trust place p w.since
  pub holds_none : (below : ℕ) → page_of below ≡ next → held heading trust kind (suc level) below h ≡ None

-- Emptied: under version 5 or later, it was so at some DSB, and since then there was no valid write of the place and no
-- init of its page.
pub record Emptied (heading : Heading) (trust : Trust) (kind : Kind) (level place : ℕ) (h : List Noted) : Type 0 where
  pub version : empties_tables heading.version ≡ true
  pub q : ℕ
  pub dsb : Barrier
  pub newer : List Noted
  pub barrier : Noted
  pub older : List Noted
  pub split : h ≡ newer ++ barrier ∷ older
  pub is_barrier : barrier.event ≡ Dsb q dsb
  pub empty : EmptyAbove heading trust kind level place (barrier ∷ older)
  pub last : (r v : ℕ) (n : Noted) (after before : List Noted) → newer ≡ after ++ n ∷ before
      → n.event ≡ Write r place v → is_valid kind level v ≡ false
  pub no_init : (r : ℕ) (n : Noted) (after before : List Noted) → newer ≡ after ++ n ∷ before
      → n.event ≡ Init r (page_of place) → ⊥

-- Held: the last valid write gave the place this value, at some PE the place isn't cleansed since then, and it isn't
-- emptied. That is said here by the test; `law_held` says that the test is the sentence above.
pub record Holds (heading : Heading) (trust : Trust) (kind : Kind) (level place : ℕ) (h : List Noted) (value : ℕ)
    : Type 0 where
  pub since : List Noted
  pub last_write : IsLastValid kind level place h (record { value = value; since = since })
  pub p : ℕ
  pub is_pe : p < heading.pes
  pub uncleansed : Cleansed heading trust place p since → ⊥
  pub unemptied : emptied heading trust kind level place h ≡ false
