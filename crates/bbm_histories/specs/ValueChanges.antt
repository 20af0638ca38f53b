-- What is known of the values of places. A history is newest first, so in `newer ++ older` the events of `newer` came
-- after those of `older`; an annotated history is split the same way.
-- Source: project's own choice.
use Rattle.std.specs.Prelude.{◌≡◌, ℕ, ◌%◌, ◌⊎◌, true, false, List, ◌∷◌, ◌++◌, Some, None, if◌then◌else◌}
use Rattle.bbm_descriptor.specs.Descriptor.{is_valid, needs}
use Rattle.bbm_rules.specs.Prelude.{Kind, Heading, Event, Init, Write}
use Rattle.bbm_rules.specs.Claims.{Trust}
use Rattle.bbm_rules.specs.Cleansing.{seen}
use Rattle.bbm_rules.specs.Held.{ValidWrite, last_valid}
use Rattle.bbm_rules.specs.Notes.{Noted, events_of}
use Rattle.bbm_rules.specs.Pages.{is_fresh}
use Rattle.bbm_rules.specs.Places.{page_of}
use Rattle.bbm_rules.specs.Tree.{Node, held_at}
use Rattle.bbm_rules.specs.Values.{value_of}

-- no event among these is an init of the page
abbrev pub NoInit : ℕ → List Event → Type 0
NoInit page newer = (q : ℕ) (after before : List Event) → newer ≡ after ++ Init q page ∷ before → ⊥

-- The event makes the value readable at the place: it writes it there, or it is an init of the page and the value is 0.
abbrev pub MakesReadable : ℕ → ℕ → Event → Type 0
MakesReadable place value e = ((q : ℕ) × (e ≡ Write q place value)) ⊎ ((q : ℕ) × (e ≡ Init q (page_of place))
    × (value ≡ 0))

module _ (heading : Heading) (trust : Trust) where
  -- Fresh content: in a fresh page a value with bit 0 set stays, from its write until the next init of the page.
  abbrev pub OddStays : List Noted → Type 0
  OddStays h = (q place value : ℕ) (newer older : List Event) → is_fresh heading trust h (page_of place) ≡ true
      → events_of h ≡ newer ++ Write q place value ∷ older → NoInit (page_of place) newer → value % 2 ≡ 1
      → value_of (events_of h) place ≡ value

  -- Fresh content: in a fresh page the last valid value of a place, at whatever kind and level it is read, is the
  -- present one, and no PE has seen a write after it.
  abbrev pub FreshContent : List Noted → Type 0
  FreshContent h = (kind : Kind) (level place : ℕ) (w : ValidWrite) → is_fresh heading trust h (page_of place) ≡ true
      → last_valid kind level place h ≡ Some w
      → (value_of (events_of h) place ≡ w.value) × ((p : ℕ) → seen heading place p w.since ≡ false)

  -- Fresh content: in the page of a node that an event attaches, a place holds its present value where that is valid,
  -- and else nothing; and no PE has seen a write after the last valid one.
  pub record HoldsPresent (h : List Noted) (n : Node) (place : ℕ) : Type 0 where
    pub holds : held_at heading trust h n place
        ≡ (if is_valid n.kind n.level (value_of (events_of h) place) then Some (value_of (events_of h) place) else None)
    pub unseen : (w : ValidWrite) (p : ℕ) → last_valid n.kind n.level place h ≡ Some w
        → seen heading place p w.since ≡ false

  -- Window: a value that is readable at p at a place of a tree, and valid there, has the core of what the place holds,
  -- and p has seen no write after the last valid one.
  pub record Window (h : List Noted) (n : Node) (place p value : ℕ) : Type 0 where
    pub kept : ℕ
    pub holds : held_at heading trust h n place ≡ Some kept
    pub same_core : needs n.kind n.level kept value ≡ false
    pub last : ValidWrite
    pub is_last : last_valid n.kind n.level place h ≡ Some last
    pub unseen : seen heading place p last.since ≡ false
