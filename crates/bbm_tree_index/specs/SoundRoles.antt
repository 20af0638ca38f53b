-- Which roles of pages are sound. Source: project's own choice.
use Rattle.std.specs.Prelude.{◌≡◌, ℕ, suc, ◌+◌, ◌*◌, ◌<◌, ◌≤◌, ◌^◌, Option, Some, None, refl}
use Rattle.std.specs.Option.{IsSomeAnd}
use Rattle.bbm_events.specs.Heading.{Heading}
use Rattle.bbm_regimes.specs.declared.regime.Kind.{Kind}
use Rattle.bbm_rules.specs.Places.{page_of}
use Rattle.bbm_rules.specs.Roots.{input_pages}
use Rattle.bbm_rules.specs.Tree.{Node, region_start}
use Rattle.bbm_tree_index.specs.Nodes.{node_by}
use Rattle.bbm_tree_index.specs.declared.role.Role.{Role}
use Rattle.bbm_tree_index.specs.declared.role.Role.TheVariants.{Hangs}

-- What a role keeps of a page that hangs agrees with the node of the page above.
pub record Below (place : ℕ) (kind : Kind) (level base first : ℕ) (n : Node) : Type 0 where
  pub same_kind : kind ≡ n.kind
  pub deeper : level ≡ suc n.level
  pub start : base ≡ region_start n place
  pub same_root : first ≡ n.root

module _ (roles : ℕ → Role) (heading : Heading) where
  -- Each hanging page hangs at a place of a page of a tree, one level deeper, and there is no level behind 3.
  pub record Sound : Type 0 where
    pub hangs : (page parent level base first : ℕ) (kind : Kind) → roles page ≡ Hangs parent kind level base first
        → IsSomeAnd (node_by roles heading (page_of parent)) (Below parent kind level base first)
    pub shallow : (page : ℕ) (n : Node) → node_by roles heading page ≡ Some n → n.level < 4
    pub within : (page : ℕ) (n : Node) → node_by roles heading page ≡ Some n
        → n.base + 512 * input_pages n.level ≤ 2 ^ 45

  pub hangs_at : Sound → (page parent level base first : ℕ) (kind : Kind) → roles page ≡ Hangs parent kind level base first
      → (n : Node) × (node_by roles heading (page_of parent) ≡ Some n) × Below parent kind level base first n
  hangs_at sound page parent level base first kind e =
      by (node_by roles heading (page_of parent)) (sound.hangs page parent level base first kind e)
    where
      by : (o : Option Node) → IsSomeAnd o (Below parent kind level base first)
          → (n : Node) × (o ≡ Some n) × Below parent kind level base first n
      by None h = absurd h
      by (Some n) h = (n, refl, h)
