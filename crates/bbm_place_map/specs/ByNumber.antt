-- What is kept of the broken places, by the numbers of their values, and what calls change of them.
-- Source: project's own choice.
use Rattle.std.specs.Prelude.{◌≡◌, ℕ, ◌*◌, ◌⊎◌, Bool, Contains, Option, Some, None, nat_eq}
use Rattle.std.specs.Prelude.{List, length, slice_get, if◌then◌else◌}
use Rattle.bbm_entry_state.specs.declared.marks.Marks.{Marks}
use Rattle.bbm_place_map.specs.Dsbs.{KeepsSeats}
use Rattle.bbm_place_map.specs.Each.{Advances, Does, loses}
use Rattle.bbm_place_map.specs.Entries.{ChangesAt, entry_of, marks_of, number_by, pends_in, pends_of}
use Rattle.bbm_place_map.specs.Puts.{AreSeated, WasSeated}
use Rattle.bbm_place_map.specs.Sound.{Numbered, Placed, at_index, index_of}
use Rattle.bbm_place_map.specs.declared.entry.Entry.{Entry}
use Rattle.bbm_place_map.specs.declared.orders.Barrier.{Barrier}

-- What a contract sees of the broken places: a finite map from the numbers of their values to what is kept of them.
pub record BrokenMap : Type 0 where
  -- how many pages have values there, 512 each
  pub pages : ℕ
  -- whether there is room for the places of one more page
  pub has_room : Bool
  -- what is kept of each broken place, in the order in which they stand
  pub entries : List Entry
  -- the next pages of the tables that the last DSB took out
  pub lost : List ℕ

-- the number of the entry of a value's place, and the entry; None where the place isn't broken
abbrev pub number_at : BrokenMap → ℕ → Option ℕ
number_at broken = number_by broken.entries

abbrev pub entry_at : BrokenMap → ℕ → Option Entry
entry_at broken j = entry_of broken.entries (number_at broken j)

-- each place has one entry
abbrev pub IsOnce : BrokenMap → Type 0
IsOnce broken = (k : ℕ) (e : Entry) → slice_get broken.entries k ≡ Some e → number_at broken e.index ≡ Some k

-- The same entries, of as many pages.
pub record HoldsSame (old new : BrokenMap) : Type 0 where
  pub pages : new.pages ≡ old.pages
  pub entries : new.entries ≡ old.entries

-- A place is broken with these marks. What waits there stays, and so does the rest.
pub record Breaks (j place : ℕ) (by : Marks) (old new : BrokenMap) : Type 0 where
  pub pages : new.pages ≡ old.pages
  pub seats : (k : ℕ) (e : Entry) → slice_get new.entries k ≡ Some e
      → WasSeated old.entries e ⊎ ((e.place ≡ place) × (e.index ≡ j))
  pub entry : (e : Entry) × (e.marks ≡ by) × ((q : ℕ) → pends_in e.pends.items q ≡ pends_of q (entry_at old j))
      × ((i : ℕ) → entry_at new i ≡ (if nat_eq i j then Some e else entry_at old i))

-- These places aren't broken, and nothing waits there. The rest stays.
pub record Clears (these : ℕ → Bool) (old new : BrokenMap) : Type 0 where
  pub pages : new.pages ≡ old.pages
  pub lost : new.lost ≡ old.lost
  pub seats : AreSeated old.entries new.entries
  pub entries : (i : ℕ) → entry_at new i ≡ (if these i then None else entry_at old i)

-- As many pages and entries.
pub record SameSeats (old new : BrokenMap) : Type 0 where
  pub pages : new.pages ≡ old.pages
  pub len : length new.entries ≡ length old.entries

-- One entry changes in its place, as the relation says.
pub record ChangesOne (k : ℕ) (R : Entry → Entry → Type 0) (old new : BrokenMap) : Type 0 where
  pub same : SameSeats old new
  pub entry : ChangesAt k R old.entries new.entries

-- Each entry does.
pub record EachAdvances (R : ℕ → Entry → Entry → Type 0) (old new : BrokenMap) : Type 0 where
  pub same : SameSeats old new
  pub each : (m : ℕ) → Advances (R m) (slice_get old.entries m) (slice_get new.entries m)

-- the number of the entry of a place, where pages have these bases; None where the place isn't broken
abbrev pub entry_number : (ℕ → Option ℕ) → BrokenMap → ℕ → Option ℕ
entry_number base broken place = at_index None (number_at broken) (index_of base place)

-- Pages have values there, the place of each entry is that of its number, and each place has one entry.
pub record IsKept (base : ℕ → Option ℕ) (broken : BrokenMap) : Type 0 where
  pub once : IsOnce broken
  pub numbered : Numbered base (512 * broken.pages)
  pub placed : Placed base broken.entries

-- A DSB visited each broken place. The lost pages are the next pages of the tables that places aren't broken over any
-- more.
pub record VisitsPlaces (by : Barrier) (old new : BrokenMap) : Type 0 where
  pub pages : new.pages ≡ old.pages
  pub seats : AreSeated old.entries new.entries
  pub order : KeepsSeats by.effect old.entries new.entries
  pub each : (j : ℕ) → Does by.effect by (entry_at old j) (entry_at new j)
  pub lost : (page : ℕ) → Contains new.lost page
      → (j : ℕ) × (loses (marks_of (entry_at old j)) (marks_of (entry_at new j)) ≡ Some page)
  pub told : (j page : ℕ) → loses (marks_of (entry_at old j)) (marks_of (entry_at new j)) ≡ Some page
      → Contains new.lost page
