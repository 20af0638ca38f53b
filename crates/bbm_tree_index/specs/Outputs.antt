-- Which pages the leaves of stage 2 map that places of trees hold, or that attached pages have; and what a checker may
-- keep of that, by plain functions: the free pages, which no held leaf maps, and for each page of a tree where the
-- outputs of its leaves lie. Source: project's own choice; an output is as in the Arm ARM (DDI 0487), "VMSAv8-64
-- descriptor formats".
use Rattle.std.specs.Prelude.{◌≡◌, ◌↔◌, ℕ, ◌+◌, Bool, true, false, not, ◌&&◌, nat_le, nat_lt, Option, Some, is_some}
use Rattle.std.specs.Prelude.{List, Contains}
use Rattle.bbm_descriptor.specs.declared.desc.Core.{Core}
use Rattle.bbm_descriptor.specs.declared.desc.Core.TheVariants.{Leaf}
use Rattle.bbm_regimes.specs.Extent.{span_of}
use Rattle.bbm_regimes.specs.SameRegister.{same_kind}
use Rattle.bbm_regimes.specs.declared.regime.Kind.{Kind}
use Rattle.bbm_regimes.specs.declared.regime.Kind.TheVariants.{S2}
use Rattle.bbm_rules.specs.Mapped.{maps}
use Rattle.bbm_rules.specs.Places.{page_of}
use Rattle.bbm_rules.specs.Tree.{Node}
use Rattle.bbm_tree_index.specs.HeldCores.{is_at}
use Rattle.bbm_tree_index.specs.declared.standing.AttachedPage.{AttachedPage}

-- whether the core is that of a leaf of stage 2 at this level that maps the page
abbrev pub core_maps : Kind → ℕ → Option Core → ℕ → Bool
core_maps kind level (Some (Leaf out attrs share global contiguous)) page =
    same_kind kind S2 && nat_le out page && nat_lt page (out + span_of level)
core_maps kind level _ page = false

-- A place of a tree holds a leaf that maps the page, and the page is among those for which the place's page is looked
-- through.
pub record HeldOver (node : ℕ → Option Node) (core : Kind → ℕ → ℕ → Option Core) (looked : ℕ → ℕ → Bool) (page : ℕ)
    : Type 0 where
  pub stands : Node
  pub place : ℕ
  pub at : node (page_of place) ≡ Some stands
  pub inside : is_at (page_of place) place ≡ true
  pub looked_for : looked (page_of place) page ≡ true
  pub maps_page : core_maps stands.kind stands.level (core stands.kind stands.level place) page ≡ true

-- A place of an attached page has a leaf that maps the page.
pub record AttachedOver (Has : Node → Type 0) (value : ℕ → ℕ) (page : ℕ) : Type 0 where
  pub node : Node
  pub is_attached : Has node
  pub place : ℕ
  pub inside : is_at node.page place ≡ true
  pub maps_page : maps node.kind node.level (value place) page ≡ true

-- What keeps pages from being attached under the rule on table pages: the page is attached and isn't free; or it is one
-- of a tree or attached, and a leaf of an attached page maps it.
pub data BadTable (Has : Node → Type 0) (value : ℕ → ℕ) (free : ℕ → Bool) (node : ℕ → Option Node) (page : ℕ)
    : Type 0 where
  unclean : (m : Node) → Has m → m.page ≡ page → free page ≡ false → BadTable Has value free node page
  in_tree : is_some (node page) ≡ true → AttachedOver Has value page → BadTable Has value free node page
  attached : (m : Node) → Has m → m.page ≡ page → AttachedOver Has value page → BadTable Has value free node page

-- ---- lists of attached pages

-- the page of a node, and how it is read
abbrev pub listed_as : Node → AttachedPage
listed_as m = record { page = m.page; standing = record { kind = m.kind; level = m.level } }

-- the list has the page of the node as the node is read
abbrev pub HasListed : List AttachedPage → Node → Type 0
HasListed list m = Contains list (listed_as m)

-- the list has exactly what these nodes are listed as
abbrev pub Lists : (Node → Type 0) → List AttachedPage → Type 0
Lists Has list = (m : Node) → HasListed list m ↔ ((a : Node) × Has a × (listed_as a ≡ listed_as m))

-- ---- what becomes of the free pages, and of where outputs lie

abbrev pub Grows : (ℕ → ℕ → Bool) → (ℕ → ℕ → Bool) → Type 0
Grows old new = (table page : ℕ) → old table page ≡ true → new table page ≡ true

-- A place is given a value: a page that a leaf there maps is free no more.
pub record CoversLeaf (kind : Kind) (level place value : ℕ) (old new : ℕ → Bool) (may may' : ℕ → ℕ → Bool) : Type 0
  where
    pub free : (page : ℕ) → new page ≡ (old page && not (maps kind level value page))
    pub grows : Grows may may'
    pub own : (page : ℕ) → maps kind level value page ≡ true → may' (page_of place) page ≡ true

-- Pages are attached: a page that a leaf of theirs maps is free no more.
pub record CoversAttached (Has : Node → Type 0) (value : ℕ → ℕ) (old new : ℕ → Bool) (may may' : ℕ → ℕ → Bool)
    : Type 0 where
  pub free : (page : ℕ) → (new page ≡ true) ↔ ((old page ≡ true) × (AttachedOver Has value page → ⊥))
  pub grows : Grows may may'
  pub own : (m : Node) (place page : ℕ) → Has m → is_at m.page place ≡ true
      → maps m.kind m.level (value place) page ≡ true → may' m.page page ≡ true
