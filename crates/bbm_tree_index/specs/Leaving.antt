-- Which pages leave the trees, and how far they have. Source: project's own choice.
use Rattle.std.specs.Prelude.{◌≡◌, ◌⊎◌, ◌<◌, ◌+◌, ◌*◌, ℕ, suc, Bool, true, false, not, ◌&&◌, ◌==◌, if◌then◌else◌}
use Rattle.std.specs.Prelude.{Contains, List, [], ◌∷◌, Option, Some, None}
use Rattle.indexmap.specs.IndexMap.{IndexMap}
use Rattle.bbm_events.specs.Heading.{Heading}
use Rattle.bbm_place_map.specs.Map.{lost_pages}
use Rattle.bbm_place_map.specs.declared.map.PlaceMap.{PlaceMap}
use Rattle.bbm_regimes.specs.declared.regime.Kind.{Kind}
use Rattle.bbm_rules.specs.Places.{page_of}
use Rattle.bbm_rules.specs.Tree.{Above, Node}
use Rattle.bbm_tree_index.specs.HeldCores.{core_at, holds_at, is_held_by, leaves, next_in, stays_without}
use Rattle.bbm_tree_index.specs.IndexChanges.{Releases}
use Rattle.bbm_tree_index.specs.Nodes.{is_gone_role, node_by}
use Rattle.bbm_tree_index.specs.PageTables.{SameKeys, roles_of}
use Rattle.bbm_tree_index.specs.SoundRoles.{Sound}
use Rattle.bbm_tree_index.specs.declared.leaving.Leaving.{Leaving}
use Rattle.bbm_tree_index.specs.declared.leaving.Leaving.TheVariants.{Unheld, Root}
use Rattle.bbm_tree_index.specs.declared.role.Role.{Role}
use Rattle.bbm_tree_index.specs.declared.role.Role.TheVariants.{RootPage, Hangs, Gone}

-- whether a node stays
abbrev pub stays : PlaceMap → Leaving → Node → Bool
stays map Unheld m = is_held_by (holds_at map) m
stays map (Root first) m = stays_without first m

-- whether a page with this role leaves even where the page above it stays
abbrev pub starts_at : PlaceMap → Leaving → Role → Bool
starts_at map Unheld (Hangs parent kind (suc level) base first) = not (holds_at map kind level parent)
starts_at map (Root page) (RootPage kind first part) = first == page
starts_at map leaving role = false

-- whether a page with this role hangs at the place
abbrev pub hangs_there : ℕ → Role → Bool
hangs_there place (Hangs parent kind level base first) = parent == place
hangs_there place _ = false

-- the page that hangs at a place, which has this next page
abbrev pub hung_at : (ℕ → Role) → ℕ → Option ℕ → Option ℕ
hung_at roles place None = None
hung_at roles place (Some next) = if hangs_there place (roles next) then Some next else None

-- ---- which pages may be found

-- the pages of a root with this first page
abbrev pub IsRootPage : ℕ → ℕ → Type 0
IsRootPage first page = (i : ℕ) × (i < 16) × (page ≡ first + 4096 * i)

module _ (node : ℕ → Option Node) where
  -- the pages of the root lie side by side
  abbrev pub LieAt : ℕ → Type 0
  LieAt first = (page : ℕ) (m : Node) → node page ≡ Some m → m.above ≡ [] → m.root ≡ first → IsRootPage first page

  module _ (map : PlaceMap) where
    -- where a page hangs, the place above it holds a table with it as next page; or it holds nothing, and this is so
    abbrev pub HangOr : (ℕ → Type 0) → Type 0
    HangOr these = (page : ℕ) (m : Node) (a : Above) (rest : List Above) → node page ≡ Some m → m.above ≡ a ∷ rest
        → (next_in (core_at map m.kind a.level a.place) ≡ Some page)
        ⊎ ((holds_at map m.kind a.level a.place ≡ false) × these page)

    -- the pages that leave can be found by those that the last DSB lost, or by those of the root
    abbrev pub CanFind : Leaving → Type 0
    CanFind Unheld = HangOr (Contains (lost_pages map))
    CanFind (Root first) = LieAt first × HangOr (λ page. ⊥)

-- ---- how far they have left

-- What stood before, and which pages leave.
pub record Start : Type 0 where
  pub roles : ℕ → Role
  pub map : PlaceMap
  pub heading : Heading
  pub leaving : Leaving
  pub sound : Sound roles heading

module _ (s : Start) where
  -- the node that a page had
  abbrev pub node_of : ℕ → Option Node
  node_of = node_by s.roles s.heading

  -- whether a page leaves, and whether it has, where pages have these roles
  abbrev pub goes : ℕ → Bool
  goes page = leaves (stays s.map s.leaving) (node_by s.roles s.heading page)

  abbrev pub has_left : (ℕ → Role) → ℕ → Bool
  has_left roles page = goes page && is_gone_role (roles page)

  -- Pages that leave are gone, with each page all that hang below it, and the map released them.
  pub record Departs (roles : ℕ → Role) (map : PlaceMap) : Type 0 where
    pub left : (p : ℕ) → roles p ≡ (if has_left roles p then Gone else s.roles p)
    pub places : Releases (has_left roles) s.map map
    pub closed : (p parent level base first : ℕ) (kind : Kind) (n : Node) → s.roles p ≡ Hangs parent kind level base first
        → node_by s.roles s.heading (page_of parent) ≡ Some n → next_in (core_at s.map n.kind n.level parent) ≡ Some p
        → has_left roles (page_of parent) ≡ true → has_left roles p ≡ true

  -- The page leaves, and is read at this kind and level.
  pub record Goes (page : ℕ) (kind : Kind) (level : ℕ) : Type 0 where
    pub leaves : goes page ≡ true
    pub node : Node
    pub at : node_by s.roles s.heading page ≡ Some node
    pub same_kind : kind ≡ node.kind
    pub same_level : level ≡ node.level

  -- Further pages have left, among them each of these that starts to leave.
  pub record Takes (these : ℕ → Type 0) (old new : ℕ → Role) (map : PlaceMap) : Type 0 where
    pub departs : Departs new map
    pub kept : (p : ℕ) → has_left old p ≡ true → has_left new p ≡ true
    pub taken : (p : ℕ) → these p → starts_at s.map s.leaving (s.roles p) ≡ true → has_left new p ≡ true

  -- under this header these leave
  abbrev pub IsStart : Heading → Leaving → Type 0
  IsStart heading leaving = (s.heading ≡ heading) × (s.leaving ≡ leaving)

-- these pages are gone, and every other page of the table keeps its role
pub record LetsGo {S : Type 0} (gone : ℕ → Bool) (old new : IndexMap ℕ Role S) : Type 0 where
  pub roles : (p : ℕ) → roles_of new p ≡ (if gone p then Gone else roles_of old p)
  pub same : SameKeys old new
