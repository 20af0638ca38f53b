-- What is kept of the tracked pages: which are free, and where the outputs of the leaves of each lie.
-- Source: project's own choice.
use Rattle.std.specs.Prelude.{◌≡◌, ℕ, Bool, List, nat_eq, nat_lt, is_some}
use Rattle.indexmap.specs.IndexMap.{get, keys, spare}
use Rattle.bbm_place_map.specs.Map.{pages_of}
use Rattle.bbm_place_map.specs.declared.map.PlaceMap.{PlaceMap}
use Rattle.bbm_tree_index.specs.Index as tree
use Rattle.bbm_tree_index.specs.declared.index.TreeIndex.{TreeIndex}
use Rattle.bbm_unmapped.specs.Kept.{free_by, may_by}
use Rattle.bbm_unmapped.specs.declared.unmapped.Unmapped.{Unmapped}

-- the tracked pages, in the order of their numbers, and whether a page is one of them
unfoldable pub pages_in : Unmapped → List ℕ
pages_in unmapped = keys unmapped.pages

unfoldable pub known_in : Unmapped → ℕ → Bool
known_in unmapped page = is_some (get nat_eq unmapped.pages page)

-- whether a page is free: it is known that no held leaf of stage 2 maps it
unfoldable pub free_in : Unmapped → ℕ → Bool
free_in unmapped page = free_by unmapped.pages page

-- whether a page lies within the bounds of the outputs of a table's leaves; false where the table isn't tracked
unfoldable pub may_map : Unmapped → ℕ → ℕ → Bool
may_map unmapped table page = may_by unmapped.pages table page

-- whether there is room for one page more
unfoldable pub has_room : Unmapped → Bool
has_room unmapped = nat_lt 0 (spare unmapped.pages)

-- the same pages as the tree index has, in the same order
abbrev pub SharesPages : Unmapped → TreeIndex → Type 0
SharesPages unmapped index = pages_in unmapped ≡ tree.pages_in index

-- the pages have the numbers that the map gave them
abbrev pub IsNumberedBy : Unmapped → PlaceMap → Type 0
IsNumberedBy unmapped map = pages_of map ≡ pages_in unmapped

-- the same pages, as free as before, with the same bounds
pub record IsSame (old new : Unmapped) : Type 0 where
  pub pages : pages_in new ≡ pages_in old
  pub free : (page : ℕ) → free_in new page ≡ free_in old page
  pub may : (table page : ℕ) → may_map new table page ≡ may_map old table page
