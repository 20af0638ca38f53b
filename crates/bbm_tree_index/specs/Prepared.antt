-- What attached pages that a survey found and a judge passed stand for. Source: project's own choice.
use Rattle.std.specs.Prelude.{◌≡◌, true, Contains}
use Rattle.bbm_place_map.specs.Map.{value_at}
use Rattle.bbm_place_map.specs.declared.map.PlaceMap.{PlaceMap}
use Rattle.bbm_rules.specs.Tree.{Node}
use Rattle.bbm_tree_index.specs.Index.{fresh_in}
use Rattle.bbm_tree_index.specs.Attaching.{IsUnfresh, MayJudge, Never, names_pages}
use Rattle.bbm_tree_index.specs.LeastPages.{IsSurvey}
use Rattle.bbm_tree_index.specs.Paths.{starts_of}
use Rattle.bbm_tree_index.specs.declared.index.Prepared.{Prepared}
use Rattle.bbm_tree_index.specs.declared.index.TreeIndex.{TreeIndex}
use Rattle.bbm_tree_index.specs.declared.role.Attach.{Attach}

-- These pages can be attached to the index, by the values of the map, and this is what a survey of them found.
pub record IsPrepared (prepared : Prepared) (index : TreeIndex) (map : PlaceMap) (at : Attach) : Type 0 where
  pub may : MayJudge index at
  pub tells : IsSurvey prepared.tables.items index map at
  pub passes : Never (IsUnfresh (fresh_in index) (value_at map) (starts_of index at) (names_pages at))

-- the named pages of a root are fresh
abbrev pub AreNamedFresh : TreeIndex → Attach → Type 0
AreNamedFresh index at = names_pages at ≡ true → (n : Node) → Contains (starts_of index at) n → fresh_in index n.page ≡ true
