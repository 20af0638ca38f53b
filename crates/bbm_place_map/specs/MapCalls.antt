-- What calls change of a map, and what stays.
-- Source: project's own choice.
use Rattle.std.specs.Prelude.{◌≡◌, ℕ, true, false, Option, None, nat_eq, not, ◌&&◌, if◌then◌else◌}
use Rattle.bbm_descriptor.specs.declared.desc.Core.{Core}
use Rattle.bbm_entry_state.specs.EntryCalls.{Written}
use Rattle.bbm_entry_state.specs.Points.{is_broken}
use Rattle.bbm_entry_state.specs.EntryStanding.{IsIdle}
use Rattle.bbm_entry_state.specs.declared.state.EntryState.{EntryState}
use Rattle.bbm_place_map.specs.ByNumber.{HoldsSame}
use Rattle.bbm_place_map.specs.Each.{loses}
use Rattle.bbm_place_map.specs.Map.{value_at, marks_at, page_of, pages_of, pends_at, restless_in, restless_place}
use Rattle.bbm_place_map.specs.States.{marks_of_state}
use Rattle.bbm_place_map.specs.declared.map.PlaceMap.{PlaceMap}

-- the next page of the table that a place was broken over and isn't any more
abbrev pub lost_next : PlaceMap → PlaceMap → ℕ → Option ℕ
lost_next old new a = loses (marks_at old a) (marks_at new a)

-- A value is written at the place, and no other value changes, and the same pages are tracked.
pub record Puts (value place : ℕ) (old new : PlaceMap) : Type 0 where
  pub values : (a : ℕ) → value_at new a ≡ (if nat_eq a place then value else value_at old a)
  pub pages : pages_of new ≡ pages_of old

-- A write leaves this state at the place: its marks, and what waits there where it is broken. What is elsewhere stays.
pub record Leaves (state : EntryState) (place : ℕ) (old new : PlaceMap) : Type 0 where
  pub marks : (a : ℕ) → marks_at new a ≡ (if nat_eq a place then marks_of_state state else marks_at old a)
  pub pends : (q a : ℕ) → (nat_eq a place && not (is_broken state)) ≡ false → pends_at new q a ≡ pends_at old q a
  pub dropped : (q : ℕ) → is_broken state ≡ false → IsIdle (pends_at new q place)

-- A PE writes a value with this core, None where it is invalid, at a place in the state before. The state is after what
-- the write leaves, and nothing else changes.
pub record WritesAs (before : EntryState) (pe : ℕ) (core : Option Core) (value place : ℕ) (old new : PlaceMap) : Type 0 where
  pub written : (state : EntryState) × Written before pe core state × Leaves state place old new
  pub put : Puts value place old new

-- No value changes, and the same pages are tracked.
pub record KeepsValues (old new : PlaceMap) : Type 0 where
  pub values : (a : ℕ) → value_at new a ≡ value_at old a
  pub pages : pages_of new ≡ pages_of old

-- The same places are broken, and the same waits there.
pub record KeepsBroken (old new : PlaceMap) : Type 0 where
  pub marks : (a : ℕ) → marks_at new a ≡ marks_at old a
  pub pends : (q a : ℕ) → pends_at new q a ≡ pends_at old q a

-- No value changes, the same pages are tracked, and the same places are broken, by the same numbers.
pub record KeepsPlaces (old new : PlaceMap) : Type 0 where
  pub values : (a : ℕ) → value_at new a ≡ value_at old a
  pub pages : pages_of new ≡ pages_of old
  pub restless : restless_in new ≡ restless_in old
  pub places : (i : ℕ) → restless_place new i ≡ restless_place old i

-- Only what waits for the answers of the issuer's TLBIs changes.
pub record NotesOnly (issuer : ℕ) (old new : PlaceMap) : Type 0 where
  pub others : (q a : ℕ) → nat_eq q issuer ≡ false → pends_at new q a ≡ pends_at old q a
  pub marks : (a : ℕ) → marks_at new a ≡ marks_at old a
  pub same : KeepsPlaces old new

-- No place of the page is broken any more, and nothing waits there. What is elsewhere stays.
pub record Frees (page : ℕ) (old new : PlaceMap) : Type 0 where
  pub marks : (a : ℕ) → marks_at new a ≡ (if nat_eq (page_of a) page then None else marks_at old a)
  pub pends : (q a : ℕ) → nat_eq (page_of a) page ≡ false → pends_at new q a ≡ pends_at old q a
  pub dropped : (q a : ℕ) → nat_eq (page_of a) page ≡ true → IsIdle (pends_at new q a)

-- no word tells the two maps apart
pub record IsSame (old new : PlaceMap) : Type 0 where
  pub values : (a : ℕ) → value_at new a ≡ value_at old a
  pub marks : (a : ℕ) → marks_at new a ≡ marks_at old a
  pub pends : (q a : ℕ) → pends_at new q a ≡ pends_at old q a
  pub pages : pages_of new ≡ pages_of old
  pub restless : restless_in new ≡ restless_in old
  pub places : (i : ℕ) → restless_place new i ≡ restless_place old i

-- Pages, values and broken places are the same, in as much room or more.
pub record KeepsItems (old new : PlaceMap) : Type 0 where
  pub pages : new.pages ≡ old.pages
  pub values : new.values.items ≡ old.values.items
  pub broken : HoldsSame old.broken new.broken
