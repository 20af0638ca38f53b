-- What is looked for among outputs, and under places. Source: project's own choice.
use Rattle.std.specs.Prelude.{◌≡◌, ◌⊎◌, ℕ, true, false, List, Some, Contains, is_some, slice_get}
use Rattle.bbm_place_map.specs.Map.{value_at}
use Rattle.bbm_place_map.specs.declared.map.PlaceMap.{PlaceMap}
use Rattle.bbm_rules.specs.Mapped.{maps}
use Rattle.bbm_rules.specs.Places.{page_of}
use Rattle.bbm_tree_index.specs.HeldCores.{core_at, is_at}
use Rattle.bbm_tree_index.specs.Index.{node_in}
use Rattle.bbm_tree_index.specs.Outputs.{AttachedOver, HasListed, HeldOver, core_maps}
use Rattle.bbm_tree_index.specs.declared.index.TreeIndex.{TreeIndex}
use Rattle.bbm_tree_index.specs.declared.standing.AttachedPage.{AttachedPage}
use Rattle.bbm_tree_index.specs.declared.standing.Standing.{Standing}
use Rattle.bbm_unmapped.specs.InOutputs.{in_outputs}
use Rattle.bbm_unmapped.specs.Unmapped.{free_in, may_map, pages_in}
use Rattle.bbm_unmapped.specs.declared.outputs.Outputs.{Outputs}
use Rattle.bbm_unmapped.specs.declared.unmapped.Unmapped.{Unmapped}

-- ---- a held leaf over a page

-- a place of the page, which is read like this, holds a leaf that maps another page
pub record HeldIn (map : PlaceMap) (read : Standing) (table page : ℕ) : Type 0 where
  pub place : ℕ
  pub inside : is_at table place ≡ true
  pub maps_page : core_maps read.kind read.level (core_at map read.kind read.level place) page ≡ true

module _ (unmapped : Unmapped) (index : TreeIndex) (map : PlaceMap) (page : ℕ) where
  abbrev pub IsHeldOver : Type 0
  IsHeldOver = HeldOver (node_in index) (core_at map) (may_map unmapped) page

  -- and its page has this number
  pub record HeldUnder (number : ℕ) : Type 0 where
    pub held : IsHeldOver
    pub at : slice_get (pages_in unmapped) number ≡ Some (page_of held.place)

-- ---- a page of a tree, or a listed one

-- a page of a tree among outputs
abbrev pub IsUnder : TreeIndex → Outputs → ℕ → Type 0
IsUnder index outputs page = (in_outputs outputs page ≡ true) × (is_some (node_in index page) ≡ true)

-- the page is listed
pub record IsListed (pages : List AttachedPage) (page : ℕ) : Type 0 where
  pub listed : AttachedPage
  pub has : Contains pages listed
  pub is : listed.page ≡ page

-- a place of a listed page has a leaf that maps the page
pub record LeafOver (map : PlaceMap) (listed : AttachedPage) (page : ℕ) : Type 0 where
  pub place : ℕ
  pub inside : is_at listed.page place ≡ true
  pub maps_page : maps listed.standing.kind listed.standing.level (value_at map place) page ≡ true

abbrev pub IsOver : PlaceMap → List AttachedPage → ℕ → Type 0
IsOver map pages page = AttachedOver (HasListed pages) (value_at map) page

module _ (unmapped : Unmapped) where
  -- a free page among outputs
  abbrev pub IsFreeUnder : Outputs → ℕ → Type 0
  IsFreeUnder outputs page = (in_outputs outputs page ≡ true) × (free_in unmapped page ≡ true)

  module _ (pages : List AttachedPage) where
    -- the page is listed, and isn't free
    abbrev pub IsUnclean : ℕ → Type 0
    IsUnclean page = (free_in unmapped page ≡ false) × IsListed pages page

    -- the page is in a tree, or listed and free; one that is listed and isn't free is bad already
    abbrev pub IsTarget : TreeIndex → ℕ → Type 0
    IsTarget index page = (is_some (node_in index page) ≡ true) ⊎ ((free_in unmapped page ≡ true) × IsListed pages page)
