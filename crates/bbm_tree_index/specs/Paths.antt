-- Paths through fresh pages, and what attaching adds to the trees. Source: project's own choice.
use Rattle.std.specs.Prelude.{◌≡◌, ℕ, suc, true, List, [], ◌∷◌, Option, Some, None, Contains}
use Rattle.std.specs.Prelude.{Bool}
use Rattle.bbm_regimes.specs.declared.regime.Kind.{Kind}
use Rattle.bbm_rules.specs.Attach.{End, end_at}
use Rattle.bbm_rules.specs.Places.{page_of}
use Rattle.bbm_rules.specs.Tree.{Node, next_of, node_below, nodes_of_root}
use Rattle.bbm_tree_index.specs.HeldCores.{is_at}
use Rattle.bbm_tree_index.specs.Index.{heading_of, node_in}
use Rattle.bbm_tree_index.specs.declared.index.TreeIndex.{TreeIndex}
use Rattle.bbm_tree_index.specs.declared.role.Attach.{Attach}
use Rattle.bbm_tree_index.specs.declared.role.Attach.TheVariants.{Root, Below}

-- the nodes at which the paths begin: those of the pages of the root, or the one below the place
abbrev pub below_all : Option Node → ℕ → ℕ → List Node
below_all None place next = []
below_all (Some n) place next = node_below n place next ∷ []

abbrev pub starts_of : TreeIndex → Attach → List Node
starts_of index (Root kind first) =
    nodes_of_root (heading_of index) (record { page = first; kind = kind; lock = None })
starts_of index (Below place next) = below_all (node_in index (page_of place)) place next

module _ (fresh : ℕ → Bool) (value : ℕ → ℕ) where
  -- Path: it begins in a page that is read at a level, and goes by these places through the table values of places of
  -- fresh pages, level by level; the end is the last next page.
  abbrev pub Leads : Kind → ℕ → ℕ → List ℕ → End → Type 0
  Leads kind level page [] end = end_at level page ≡ end
  Leads kind level page (place ∷ places) end = (fresh page ≡ true) × (is_at page place ≡ true)
      × (next : ℕ) × (next_of kind level (value place) ≡ Some next) × Leads kind (suc level) next places end

  -- The node m lies below n by these places, from n down, or is n: each is a place of a fresh page and has a table
  -- value, and the next is in its next page. The last page is fresh, too.
  abbrev pub Through : Node → List ℕ → Node → Type 0
  Through n [] m = (fresh n.page ≡ true) × (n ≡ m)
  Through n (place ∷ places) m = (fresh n.page ≡ true) × (is_at n.page place ≡ true)
      × (next : ℕ) × (next_of n.kind n.level (value place) ≡ Some next)
      × Through (node_below n place next) places m

  -- attaching adds the node to the trees
  pub record Attached (starts : List Node) (m : Node) : Type 0 where
    pub start : Node
    pub is_start : Contains starts start
    pub places : List ℕ
    pub through : Through start places m
