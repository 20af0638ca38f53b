-- What holds of each tree index, and when one agrees with a map. Source: project's own choice.
use Rattle.std.specs.Prelude.{◌≡◌, ℕ, ◌<◌, ◌%◌, ◌^◌, true, List, ◌∷◌, Some, None}
use Rattle.bbm_page_map.specs.PageLists.{number_in}
use Rattle.bbm_place_map.specs.Map.{marks_at, pages_of}
use Rattle.bbm_place_map.specs.declared.map.PlaceMap.{PlaceMap}
use Rattle.bbm_place_map.specs.declared.position.Position.{Position}
use Rattle.bbm_rules.specs.Places.{page_of}
use Rattle.bbm_rules.specs.Tree.{Above, Node, node_below}
use Rattle.bbm_tree_index.specs.HeldCores.{child, core_at, is_at}
use Rattle.bbm_tree_index.specs.Index.{heading_of, known_in, node_in, pages_in, role_in}
use Rattle.bbm_tree_index.specs.SoundRoles.{Sound}
use Rattle.bbm_tree_index.specs.declared.index.TreeIndex.{TreeIndex}

-- Each index is sound: its roles are, and what was ever tracked are pages.
pub record IsSound (index : TreeIndex) : Type 0 where
  pub roles : Sound (role_in index) (heading_of index)
  pub pages : (page : ℕ) → known_in index page ≡ true → (page < 2 ^ 48) × (page % 4096 ≡ 0)

pub is_sound : (index : TreeIndex) → IsSound index
unfolding heading_of known_in role_in
is_sound index = record { roles = index.sound; pages = index.paged }

-- the pages of the index have the numbers that the map gave them
abbrev pub SharesNumbers : TreeIndex → PlaceMap → Type 0
SharesNumbers index map = pages_of map ≡ pages_in index

-- the position has the number of its page in the index
abbrev pub HasNumber : TreeIndex → Position → Type 0
HasNumber index position = number_in (pages_in index) (page_of position.place) ≡ Some position.page

-- The index agrees with a map: where a place of a tree holds a table, its next page hangs there, and where a page hangs
-- at a place, that holds a table with this next page; a place outside the trees isn't broken.
pub record Agrees (index : TreeIndex) (map : PlaceMap) : Type 0 where
  pub below : (n : Node) (place next : ℕ) → node_in index (page_of place) ≡ Some n → is_at n.page place ≡ true
      → child (core_at map) n place ≡ Some next → node_in index next ≡ Some (node_below n place next)
  pub above : (page : ℕ) (m : Node) (a : Above) (rest : List Above) → node_in index page ≡ Some m → m.above ≡ a ∷ rest
      → (n : Node) × (node_in index (page_of a.place) ≡ Some n) × (child (core_at map) n a.place ≡ Some page)
  pub outside : (place : ℕ) → node_in index (page_of place) ≡ None → marks_at map place ≡ None
