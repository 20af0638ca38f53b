-- The emptied tables, as a history keeps them. No public contract cites these words. Source: project's own choice.
use Rattle.std.specs.Prelude.{◌≡◌, ℕ, suc, Bool, true, false, not, ◌&&◌, ◌||◌, ◌==◌, List, ◌∷◌, is_some}
use Rattle.bbm_descriptor.specs.Descriptor.{is_valid}
use Rattle.bbm_rules.specs.Claims.{Trust}
use Rattle.bbm_rules.specs.Held.{emptied, emptied_after, held_unless, is_empty_above}
use Rattle.bbm_rules.specs.Lists.{any}
use Rattle.bbm_rules.specs.Next.{next_of}
use Rattle.bbm_rules.specs.Notes.{Noted}
use Rattle.bbm_rules.specs.Places.{page_of}
use Rattle.bbm_rules.specs.Prelude.{Kind, Heading, Event, Init, Write, Dsb}
use Rattle.bbm_rules.specs.Roots.{same_kind}
use Rattle.bbm_oracle_patterns.specs.Kept.{notes_of}
use Rattle.bbm_oracle_patterns.specs.declared.kept.Kept.{Kept}
use Rattle.bbm_oracle_patterns.specs.declared.search.TreePlace.{TreePlace}
use Rattle.bbm_oracle_trees.specs.Past.{Past}

-- whether it is this place, at this kind and level
abbrev pub is_seat : Kind → ℕ → ℕ → TreePlace → Bool
is_seat kind level place s = same_kind s.kind kind && (s.level == level && s.place == place)

-- whether one of them is
abbrev pub is_among : List TreePlace → Kind → ℕ → ℕ → Bool
is_among seats kind level place = any (is_seat kind level place) seats

-- whether no value that was written to the place before is its last valid one any more
abbrev pub ends_last : Kind → ℕ → ℕ → Event → Bool
ends_last kind level place (Write pe at value) = at == place && is_valid kind level value
ends_last kind level place (Init pe page) = page == page_of place
ends_last kind level place _ = false

abbrev pub is_barrier : Event → Bool
is_barrier (Dsb pe dsb) = true
is_barrier _ = false

-- whether the event writes a table to the place
abbrev pub links : Kind → ℕ → ℕ → Event → Bool
links kind level place (Write pe at value) = at == place && is_some (next_of kind level value)
links kind level place _ = false

-- those of the kind and the level are added that pass the test
abbrev pub Adds : Kind → ℕ → (Kind → ℕ → ℕ → Bool) → List TreePlace → List TreePlace → Type 0
Adds kind level test old new = (k : Kind) (l place : ℕ) → is_among new k l place
    ≡ (is_among old k l place || (same_kind kind k && (level == l && test k l place)))

module _ (heading : Heading) (trust : Trust) where
  -- whether a place holds something, where these are the emptied ones
  abbrev pub holds_by : List TreePlace → Kind → ℕ → ℕ → List Noted → Bool
  holds_by seats kind level place h =
      is_some (held_unless heading trust (is_among seats kind level place) kind level place h)

  -- whether a place is empty and above, where these are the emptied ones one level deeper
  abbrev pub is_empty : List TreePlace → Kind → ℕ → ℕ → List Noted → Bool
  is_empty seats kind level place h =
      is_empty_above heading trust (holds_by seats kind (suc level)) kind level place h

  -- whether it isn't one of them, and is so
  abbrev pub is_new : List TreePlace → Kind → ℕ → ℕ → List Noted → Bool
  is_new seats kind level place h = not (is_among seats kind level place) && is_empty seats kind level place h

  -- those of each level are added that are empty and above
  abbrev pub AddsAll : List Noted → List TreePlace → List TreePlace → Type 0
  AddsAll h old new = (kind : Kind) (level place : ℕ) → is_among new kind level place
      ≡ (is_among old kind level place || is_empty new kind level place h)

  -- they are those after the event, the newest of h, where the old ones are those before it
  abbrev pub Goes : List Noted → Event → List TreePlace → List TreePlace → Type 0
  Goes h e old new = (kind : Kind) (level place : ℕ) → is_among new kind level place
      ≡ emptied_after heading trust kind level place e (is_empty new kind level place h) (is_among old kind level place)

-- They are the emptied places.
pub record AreEmptied (heading : Heading) (trust : Trust) (h : List Noted) (seats : List TreePlace) : Type 0 where
  pub are : (kind : Kind) (level place : ℕ) → is_among seats kind level place ≡ emptied heading trust kind level place h

-- This is the newest event, and they were the emptied places before it.
pub record WereEmptied (past : Past) (e : Event) (seats : List TreePlace) : Type 0 where
  pub newest : Kept
  pub older : List Kept
  pub split : past.kept ≡ newest ∷ older
  pub is : newest.event ≡ e
  pub before : AreEmptied past.heading past.trust (notes_of older) seats
