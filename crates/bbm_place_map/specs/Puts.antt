-- What writes leave of cells and entries, which keep naming each other.
-- Source: project's own choice.
use Rattle.std.specs.Prelude.{◌≡◌, ◌⊎◌, ℕ, Bool, Some, None, List, nat_eq, slice_get, vec_len, vec_capacity}
use Rattle.std.specs.Prelude.{if◌then◌else◌}
use Rattle.bbm_entry_state.specs.declared.marks.Marks.{Marks}
use Rattle.bbm_place_map.specs.Entries.{pends_in, pends_of, position}
use Rattle.bbm_place_map.specs.Parts.{entry_of_cell}
use Rattle.bbm_place_map.specs.declared.entries.Entries.{Entries}
use Rattle.bbm_place_map.specs.declared.entry.Entry.{Entry}

-- As many cells, in as much room, and there is as much for entries.
pub record KeepsRoom (old new : Entries) : Type 0 where
  pub len : vec_len new.cells ≡ vec_len old.cells
  pub space : vec_capacity new.cells ≡ vec_capacity old.cells
  pub room : vec_capacity new.list ≡ vec_capacity old.list

-- an entry has the place and the numbers of one of these, and each of the new ones does
abbrev pub WasSeated : List Entry → Entry → Type 0
WasSeated old e = (m : ℕ) × (f : Entry) × (slice_get old m ≡ Some f) × (position e ≡ position f)

abbrev pub AreSeated : List Entry → List Entry → Type 0
AreSeated old new = (k : ℕ) (e : Entry) → slice_get new k ≡ Some e → WasSeated old e

-- Each entry is where one was, and there is as much room.
pub record StillSound (old new : Entries) : Type 0 where
  pub room : KeepsRoom old new
  pub seats : AreSeated old.list.items new.list.items

-- The place of a cell is broken with these marks. What waits there stays, and so does the rest.
pub record MarksCell (cell index place : ℕ) (by : Marks) (old new : Entries) : Type 0 where
  pub room : KeepsRoom old new
  pub seats : (k : ℕ) (e : Entry) → slice_get new.list.items k ≡ Some e
      → WasSeated old.list.items e ⊎ (position e ≡ (place, index, cell))
  pub entry : (e : Entry) × (e.marks ≡ by) × ((q : ℕ) → pends_in e.pends.items q ≡ pends_of q (entry_of_cell old cell))
      × ((i : ℕ) → entry_of_cell new i ≡ (if nat_eq i cell then Some e else entry_of_cell old i))

-- The places of these cells aren't broken, and nothing waits there. The rest stays.
pub record ClearsCells (these : ℕ → Bool) (old new : Entries) : Type 0 where
  pub sound : StillSound old new
  pub entries : (i : ℕ) → entry_of_cell new i ≡ (if these i then None else entry_of_cell old i)
