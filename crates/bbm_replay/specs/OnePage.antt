-- A TLBI that names one input page, and the places that it can cover. Source: project's own choice; which kinds an
-- operation by address covers is that of the table of covers.
use Rattle.std.specs.Prelude.{◌≡◌, ℕ, ◌+◌, ◌*◌, ◌<◌, ◌≤◌, ◌%◌, ◌^◌, Bool, true, false, List, Option, Some}
use Rattle.bbm_descriptor.specs.declared.desc.Core.{Core}
use Rattle.bbm_place_map.specs.Map.{is_tracked}
use Rattle.bbm_place_map.specs.declared.map.PlaceMap.{PlaceMap}
use Rattle.bbm_regimes.specs.declared.regime.Kind.{Kind}
use Rattle.bbm_regimes.specs.declared.regime.Kind.TheVariants.{El2, S2, Ttbr0, Ttbr1}
use Rattle.bbm_tlbi_scope.specs.Operations.{has_page}
use Rattle.bbm_tlbi_scope.specs.declared.scope.Family.{Family}
use Rattle.bbm_tlbi_scope.specs.declared.scope.Family.TheVariants.{El2Va, Ipa, Va, VaAll}
use Rattle.bbm_tlbi_scope.specs.declared.scope.Scope.{Scope}
use Rattle.bbm_rules.specs.Places.{page_of}
use Rattle.bbm_rules.specs.Tree.{Node, node_below}
use Rattle.bbm_tree_index.specs.Descent.{IsWay, Translates}
use Rattle.bbm_tree_index.specs.HeldCores.{child, core_at}
use Rattle.bbm_tree_index.specs.Index.{node_in}
use Rattle.bbm_tree_index.specs.IndexAgreement.{SharesNumbers}
use Rattle.bbm_tree_index.specs.Nodes.{path_at}
use Rattle.bbm_tree_index.specs.declared.role.Path.{Path}
use Rattle.bbm_tree_index.specs.declared.index.TreeIndex.{TreeIndex}
use Rattle.bbm_replay.specs.declared.tlbi_cover.Search.{Search}
use Rattle.bbm_replay.specs.declared.tlbi_cover.Search.TheVariants.{Each, Pages, WayTo}
use Rattle.bbm_replay.specs.declared.tlbi_cover.TheConstants.{ONE_BY_ONE}

-- whether an operation by address of this family can cover places of a root of this kind
abbrev pub covers_kind : Family → Kind → Bool
covers_kind El2Va El2 = true
covers_kind Ipa S2 = true
covers_kind VaAll Ttbr0 = true
covers_kind VaAll Ttbr1 = true
covers_kind Va Ttbr0 = true
covers_kind Va Ttbr1 = true
covers_kind _ _ = false

-- the scope names one input page, by its address
pub record NamesOne (scope : Scope) (at : ℕ) : Type 0 where
  pub page : scope.interval ≡ Some (record { lo = at; hi = at })
  pub family : has_page scope.family ≡ true

-- where a TLBI looks for the broken places that it covers, of which there are so many
abbrev pub FitsSearch : Scope → ℕ → Search → Type 0
FitsSearch scope broken Each = broken ≤ ONE_BY_ONE
FitsSearch scope broken (WayTo at) = NamesOne scope at
FitsSearch scope broken Pages = Unit {0}

-- The map and the index fit together: they number pages alike, each page of a tree is tracked, and where a place of a
-- tree holds a table, the next page hangs there.
pub record FitTogether (map : PlaceMap) (index : TreeIndex) : Type 0 where
  pub numbers : SharesNumbers index map
  pub tracked : (p : ℕ) (n : Node) → node_in index p ≡ Some n → is_tracked map p ≡ true
  pub below : (n : Node) (place next : ℕ) → node_in index (page_of place) ≡ Some n
      → child (core_at map) n place ≡ Some next → node_in index next ≡ Some (node_below n place next)

-- The place lies in the page of a tree and has this path, and no other place of its page translates the input page.
pub record IsOnWay (node : ℕ → Option Node) (at place : ℕ) (path : Path) : Type 0 where
  pub stands : Node
  pub is_node : node (page_of place) ≡ Some stands
  pub has_path : path ≡ path_at stands place
  pub only : (a : ℕ) → Translates (page_of place) stands at a → place ≡ a

-- an address of a page
abbrev pub IsPage : ℕ → Type 0
IsPage page = (page < 2 ^ 48) × (page % 4096 ≡ 0)

module _ (node : ℕ → Option Node) (core : Kind → ℕ → ℕ → Option Core) (at : ℕ) where
  -- each place that is met on the way down from the page has the property
  abbrev pub MetFrom : ℕ → (ℕ → Type 0) → Type 0
  MetFrom page Has = IsPage page → (way : List ℕ) (a : ℕ) → IsWay node core at page way a → Has a

  -- the same of so many consecutive pages
  abbrev pub MetFromAll : ℕ → ℕ → (ℕ → Type 0) → Type 0
  MetFromAll first count Has = (part : ℕ) → part < count → MetFrom (first + 4096 * part) Has
