-- Going down a tree along an input page. Source: Arm ARM (DDI 0487), "VMSAv8-64 translation table walks".
use Rattle.std.specs.Prelude.{◌≡◌, ℕ, suc, ◌+◌, ◌*◌, ◌^◌, ◌<◌, ◌≤◌, true, List, [], ◌∷◌, Option, Some}
use Rattle.bbm_descriptor.specs.declared.desc.Core.{Core}
use Rattle.bbm_regimes.specs.declared.regime.Kind.{Kind}
use Rattle.bbm_rules.specs.Roots.{input_pages}
use Rattle.bbm_rules.specs.Tree.{Node, region_start}
use Rattle.bbm_tree_index.specs.HeldCores.{child, is_at}
use Rattle.bbm_tree_index.specs.declared.role.Path.{Path}

-- the place is one of the page, where the node stands, and translates the input page
pub record Translates (page : ℕ) (n : Node) (at place : ℕ) : Type 0 where
  pub inside : is_at page place ≡ true
  pub from : region_start n place ≤ at
  pub to : at < region_start n place + input_pages n.level

-- The way down from a page to a place: the places of the way translate the input page, and each holds a table whose
-- next page has the next one.
module _ (node : ℕ → Option Node) (core : Kind → ℕ → ℕ → Option Core) (at : ℕ) where
  abbrev pub IsWay : ℕ → List ℕ → ℕ → Type 0
  IsWay page [] a = (n : Node) × (node page ≡ Some n) × Translates page n at a
  IsWay page (b ∷ way) a = (n : Node) × (node page ≡ Some n) × Translates page n at b
      × (next : ℕ) × (child core n b ≡ Some next) × IsWay next way a

-- a page can hang at a place with this path: it has a level, and its region lies below the end of the input pages
pub record MayHang (path : Path) : Type 0 where
  pub low : path.level ≤ 2
  pub within : path.region.lo + 512 * input_pages (suc path.level) ≤ 2 ^ 45
