-- Which nodes the paths through fresh pages reach, and how a table of marks tells it. Source: project's own choice.
use Rattle.std.specs.Prelude.{◌≡◌, ℕ, ◌-◌, ◌/◌, Bool, true, false, ◌&&◌, ◌||◌, ◌==◌, nat_lt, List, [], ◌∷◌, length}
use Rattle.std.specs.Prelude.{Option, Some, None, Contains}
use Rattle.std.specs.Prelude.{if◌then◌else◌}
use Rattle.std.specs.Prelude.{zero, suc, ◌+◌, ◌*◌, ◌<◌, ◌%◌, ◌^◌, is_some, nat_eq, slice_get}
use Rattle.bbm_regimes.specs.declared.regime.Kind.{Kind}
use Rattle.indexmap.specs.IndexMap.{IndexMap, get}
use Rattle.bbm_events.specs.Heading.{Heading}
use Rattle.bbm_rules.specs.Places.{index_of, page_of}
use Rattle.bbm_rules.specs.Tree.{Above, Node, next_of, node_below}
use Rattle.bbm_tree_index.specs.PageTables.{roles_of}
use Rattle.bbm_tree_index.specs.Nodes.{is_fresh_role}
use Rattle.bbm_tree_index.specs.Spots.{RoleFits, StandsAt, spot_with}
use Rattle.bbm_tree_index.specs.declared.spot.Spot.{Spot}
use Rattle.bbm_tree_index.specs.HeldCores.{is_at}
use Rattle.bbm_tree_index.specs.declared.mark.Mark.{Mark}
use Rattle.bbm_tree_index.specs.declared.role.Role.{Role}
use Rattle.bbm_tree_index.specs.declared.role.Role.TheVariants.{RootPage, Hangs}

-- the role of a node with these places above
abbrev pub role_as : Node → List Above → Role
role_as m [] = RootPage m.kind m.root ((m.page - m.root) / 4096)
role_as m (a ∷ rest) = Hangs a.place m.kind m.level m.base m.root

module _ (fresh : ℕ → Bool) (value : ℕ → ℕ) where
  -- the place of the page of n leads to m
  pub record Step (n : Node) (place : ℕ) (m : Node) : Type 0 where
    pub is_fresh : fresh n.page ≡ true
    pub inside : is_at n.page place ≡ true
    pub table : next_of n.kind n.level (value place) ≡ Some m.page
    pub below : m ≡ node_below n place m.page

  abbrev pub Goes : Node → List ℕ → Node → Type 0
  Goes n [] m = n ≡ m
  Goes n (place ∷ places) m = (b : Node) × Step n place b × Goes b places m

  module _ (starts : List Node) where
    -- a path of so many places from a start reaches the node
    pub record Reached (k : ℕ) (m : Node) : Type 0 where
      pub start : Node
      pub is_start : Contains starts start
      pub places : List ℕ
      pub count : length places ≡ k
      pub goes : Goes start places m

    -- the same, where the last place is one of those that are done
    pub record Partly (k : ℕ) (done : ℕ → Bool) (m : Node) : Type 0 where
      pub above : Node
      pub is_above : Reached k above
      pub place : ℕ
      pub is_done : done place ≡ true
      pub step : Step above place m

-- the nodes that so many places reach have one kind and one level
abbrev pub Uniform : (ℕ → Bool) → (ℕ → ℕ) → List Node → ℕ → Type 0
Uniform fresh value starts k = (n n' : Node) → Reached fresh value starts k n → Reached fresh value starts k n'
    → (n.kind ≡ n'.kind) × (n.level ≡ n'.level)

-- the mark tells a node of the page, and whether it is the only one
pub record Found (Has : Node → Type 0) (page : ℕ) (mark : Mark) : Type 0 where
  pub node : Node
  pub is_there : Has node
  pub at : node.page ≡ page
  pub role : mark.role ≡ role_as node node.above
  pub one : mark.many ≡ false → (m : Node) → Has m → m.page ≡ page → m ≡ node
  pub two : mark.many ≡ true → (m : Node) × Has m × (m.page ≡ page) × (m ≡ node → ⊥)

abbrev pub Counts : (Node → Type 0) → ℕ → Option Mark → Type 0
Counts Has page None = (m : Node) → Has m → m.page ≡ page → ⊥
Counts Has page (Some mark) = Found Has page mark

-- which places come first in the page
abbrev pub scanned : ℕ → ℕ → ℕ → Bool
scanned page n a = page_of a == page && nat_lt (index_of a) n

-- the places that are done, and the first ones of the page, or all of it
abbrev pub with_first : ℕ → ℕ → (ℕ → Bool) → ℕ → Bool
with_first page n done a = done a || scanned page n a

abbrev pub with_page : ℕ → (ℕ → Bool) → ℕ → Bool
with_page page done a = done a || page_of a == page

-- Paths that go on through places of a fresh page, which stands there, are noted: where a table of marks told the nodes
-- below the places that are done as `before` says, it tells those below the places that are done as `after` says.
abbrev pub Expands : (ℕ → ℕ) → Spot → Bool → ℕ → ((ℕ → Bool) → ℕ → Bool) → ((ℕ → Bool) → ℕ → Bool)
    → (ℕ → Option Mark) → (ℕ → Option Mark) → Type 0
Expands value spot many page before after old new = (fresh : ℕ → Bool) (starts : List Node) (k : ℕ) (done : ℕ → Bool)
    (mark : Mark) → Uniform fresh value starts k → fresh page ≡ true → ((a : ℕ) → page_of a ≡ page → done a ≡ false)
    → mark.many ≡ many → (found : Found (Reached fresh value starts k) page mark) → StandsAt spot found.node
    → ((q : ℕ) → Counts (Partly fresh value starts k (before done)) q (old q))
    → (q : ℕ) → Counts (Partly fresh value starts k (after done)) q (new q)

-- one more path to a page
abbrev pub joined : Option Mark → Mark → Mark
joined None mark = mark
joined (Some old) mark = record { role = old.role; many = true }

abbrev pub grown : Option ℕ → Mark → (ℕ → Option Mark) → ℕ → Option Mark
grown None mark g q = g q
grown (Some next) mark g q = if q == next then Some (joined (g next) mark) else g q

-- the marks of so many pages of a root, from the first one on
abbrev pub root_marks : Kind → ℕ → ℕ → ℕ → Option Mark
root_marks kind first zero q = None
root_marks kind first (suc n) q =
    if q == first + 4096 * n then Some (record { role = RootPage kind first n; many = false })
    else root_marks kind first n q

-- a table of marks is well formed: its pages are pages, and its roles fit
pub record Well (heading : Heading) (g : ℕ → Option Mark) : Type 0 where
  pub pages : (p : ℕ) → is_some (g p) ≡ true → (p < 2 ^ 48) × (p % 4096 ≡ 0)
  pub fit : (p : ℕ) (mark : Mark) → g p ≡ Some mark → RoleFits heading mark.role

-- a table that was well formed, under whatever header, is so still
abbrev pub StaysWell : {S : Type 0} → IndexMap ℕ Mark S → IndexMap ℕ Mark S → Type 0
StaysWell old new = (heading : Heading) → Well heading (get nat_eq old) → Well heading (get nat_eq new)

-- the role of each of the nodes tells where it stands
abbrev pub spot_as : Node → Spot
spot_as m = record { kind = m.kind; level = m.level; base = m.base; first = m.root }

abbrev pub Plain : Heading → (Node → Type 0) → Type 0
Plain heading Has = (m : Node) → Has m → spot_with heading (role_as m m.above) ≡ Some (spot_as m)

-- the fresh pages of a table of roles
abbrev pub fresh_of : {S : Type 0} → IndexMap ℕ Role S → ℕ → Bool
fresh_of table page = is_fresh_role (roles_of table page)

-- A table for each level: where the first tells the starts, which have one kind and one level, each tells the nodes
-- that so many places reach.
pub record Starting (heading : Heading) (first : ℕ → Option Mark) (starts : List Node) : Type 0 where
  pub plain : Plain heading (Contains starts)
  pub alike : (s s' : Node) → Contains starts s → Contains starts s' → (s.kind ≡ s'.kind) × (s.level ≡ s'.level)
  pub told : (q : ℕ) → Counts (Contains starts) q (first q)

-- the tables have the pages that can be reached, level by level, each with its mark
pub record Surveyed {S : Type 0} (heading : Heading) (fresh : ℕ → Bool) (value : ℕ → ℕ) (first : ℕ → Option Mark)
    (tables : List (IndexMap ℕ Mark S)) : Type 0 where
  pub wells : (k : ℕ) (table : IndexMap ℕ Mark S) → slice_get tables k ≡ Some table → Well heading (get nat_eq table)
  pub levels : (starts : List Node) → Starting heading first starts → (k : ℕ) (table : IndexMap ℕ Mark S)
      → slice_get tables k ≡ Some table → (q : ℕ) → Counts (Reached fresh value starts k) q (get nat_eq table q)
