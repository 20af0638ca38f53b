-- How pages, their values, cells and entries hang together.
-- Source: project's own choice.
use Rattle.std.specs.Prelude.{◌≡◌, ℕ, ◌+◌, ◌*◌, ◌/◌, ◌%◌, ◌<◌, ◌≤◌, ◌==◌, Option, Some, None, List, length}
use Rattle.std.specs.Prelude.{count_by, slice_get, if◌then◌else◌, Vec, vec_capacity}
use Rattle.std.specs.Option.{option_map}
use Rattle.std.specs.declared.alloc.Global.{Global}
use Rattle.bbm_page_map.specs.PageLists.{number_in}
use Rattle.bbm_place_map.specs.Cells.{slot_in, is_listed}
use Rattle.bbm_place_map.specs.Entries.{cell_at}
use Rattle.bbm_place_map.specs.declared.entry.Entry.{Entry}

-- Each number in a cell is that of the cell's entry, each entry's number is in its cell, and there are as many.
pub record Linked (cells : List ℕ) (entries : List Entry) : Type 0 where
  pub forth : (j k : ℕ) → slot_in cells j ≡ Some k → cell_at entries k ≡ Some j
  pub back : (j k : ℕ) → cell_at entries k ≡ Some j → slot_in cells j ≡ Some k
  pub count : count_by is_listed cells ≡ length entries

-- Each page has the 512 values, or cells, from its base on, and no two pages share one.
pub record Numbered (base : ℕ → Option ℕ) (count : ℕ) : Type 0 where
  pub within : (page b : ℕ) → base page ≡ Some b → b + 512 ≤ count
  pub apart : (p q b c : ℕ) → base p ≡ Some b → base q ≡ Some c → b ≤ c → c < b + 512 → p ≡ q

-- the number of the first value of a page: 512 times that of the page; None where the page has no number
abbrev pub bases : List ℕ → ℕ → Option ℕ
bases pages page = option_map (λ n. 512 * n) (number_in pages page)

-- the number of the value, or of the cell, at an address
abbrev pub index_of : (ℕ → Option ℕ) → ℕ → Option ℕ
index_of base a = if a % 8 == 0 then option_map (λ b. b + a % 4096 / 8) (base (a / 4096 * 4096)) else None

-- what is kept of a cell, or a default where there is no cell
abbrev pub at_index : {X : Type 0} → X → (ℕ → X) → Option ℕ → X
at_index d f None = d
at_index d f (Some j) = f j

-- the place of each entry is that of its number
abbrev pub Placed : (ℕ → Option ℕ) → List Entry → Type 0
Placed base entries = (k : ℕ) (e : Entry) → slice_get entries k ≡ Some e → index_of base e.place ≡ Some e.index

-- As many entries, in as much room.
pub record SameSize (old new : Vec Entry Global) : Type 0 where
  pub len : length new.items ≡ length old.items
  pub room : vec_capacity new ≡ vec_capacity old

-- The cells name the same entries.
pub record KeepsSlots (cells cells' : List ℕ) : Type 0 where
  pub slots : (i : ℕ) → slot_in cells' i ≡ slot_in cells i
  pub linked : (entries : List Entry) → Linked cells entries → Linked cells' entries
