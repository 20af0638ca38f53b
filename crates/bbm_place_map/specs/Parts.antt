-- What is kept of each cell, and which cells the pages have.
-- Source: project's own choice.
use Rattle.std.specs.Prelude.{◌≡◌, ℕ, ◌*◌, ◌^◌, ◌<◌, ◌≤◌, Option, Some, List, length, count_by, slice_get, vec_len}
use Rattle.std.specs.Prelude.{vec_capacity, ◌+◌, ◌&&◌, Bool, Vec, nat_le, nat_lt}
use Rattle.std.specs.declared.alloc.Global.{Global}
use Rattle.bbm_entry_state.specs.declared.marks.Marks.{Marks}
use Rattle.bbm_entry_state.specs.declared.pending.Pends.{Pends}
use Rattle.bbm_place_map.specs.Cells.{cell_by, is_listed, slot_in}
use Rattle.bbm_place_map.specs.Entries.{entry_in, marks_of, pends_of}
use Rattle.bbm_place_map.specs.Sound.{Numbered}
use Rattle.bbm_place_map.specs.declared.entries.Entries.{Entries}
use Rattle.bbm_place_map.specs.declared.entry.Entry.{Entry}

-- the entry of a cell
abbrev pub entry_of_cell : Entries → ℕ → Option Entry
entry_of_cell entries j = entry_in entries.cells.items entries.list.items j

-- how far each PE is cleansed of the core of a cell's place; None where the place isn't broken
abbrev pub marks_in : List ℕ → List Entry → ℕ → Option Marks
marks_in cells entries j = marks_of (entry_in cells entries j)

-- what waits at the place for the answers of an issuer's TLBIs
abbrev pub pends_for : List ℕ → List Entry → ℕ → ℕ → Pends
pends_for cells entries q j = pends_of q (entry_in cells entries j)

-- Some pages have 512 cells, in any order: the parts tell where those of each page start. Each entry has the cell of its
-- number. There is room for the cells of all pages, and for an entry of each.
pub record IsSound (parts : List ℕ) (entries : Entries) : Type 0 where
  pub numbered : Numbered (slot_in parts) (vec_len entries.cells)
  pub some : 512 * count_by is_listed parts ≡ vec_len entries.cells
  pub seated : (k : ℕ) (e : Entry) → slice_get entries.list.items k ≡ Some e → cell_by parts e.index ≡ Some e.cell
  pub space : 512 * length parts ≤ vec_capacity entries.cells
  pub room : 512 * length parts ≤ vec_capacity entries.list
  pub few : 512 * length parts < 2 ^ 32

-- there is room for as many next pages as the pages have places
abbrev pub HasSpare : Vec ℕ Global → Vec ℕ Global → Type 0
HasSpare parts lost = 512 * vec_len parts ≤ vec_capacity lost

-- whether there is room for the cells of one more page, and for an entry and a next page of each
abbrev pub has_room_for_page : Vec ℕ Global → Entries → Vec ℕ Global → Bool
has_room_for_page parts entries lost =
    nat_lt (vec_len parts) (vec_capacity parts) && nat_le (512 * (vec_len parts + 1)) (vec_capacity entries.cells)
    && nat_le (512 * (vec_len parts + 1)) (vec_capacity entries.list)
    && nat_le (512 * (vec_len parts + 1)) (vec_capacity lost) && nat_lt (512 * (vec_len parts + 1)) (2 ^ 32)

-- Each cell has the entry that it had, and no entry changes. There may be more cells, which have none.
pub record AddsCells (old new : Entries) : Type 0 where
  pub slots : (i : ℕ) → slot_in new.cells.items i ≡ slot_in old.cells.items i
  pub list : new.list ≡ old.list
