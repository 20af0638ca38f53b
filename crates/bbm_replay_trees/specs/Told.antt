-- What a checker that keeps no history says of each page and place, and when that is what the definitions say after a
-- history. A history is newest first. Source: project's own choice.
use Rattle.std.specs.Prelude.{◌≡◌, ℕ, Bool, true, ◌&&◌, ◌==◌, List, Option, Some, option_and_then, if◌then◌else◌}
use Rattle.bbm_descriptor.specs.Descriptor.{core_of, is_valid}
use Rattle.bbm_descriptor.specs.declared.desc.Core.{Core}
use Rattle.bbm_entry_state.specs.declared.marks.Marks.{Marks}
use Rattle.bbm_entry_state.specs.declared.pending.Pends.{Pends}
use Rattle.bbm_events.specs.Fits.{fits_heading}
use Rattle.bbm_rules.specs.Prelude.{Kind, Heading, Event, Write}
use Rattle.bbm_rules.specs.Claims.Trust.{Patterns}
use Rattle.bbm_rules.specs.Covers.{noted}
use Rattle.bbm_rules.specs.Lists.{among, every}
use Rattle.bbm_rules.specs.Notes.{Noted}
use Rattle.bbm_rules.specs.Pages.{initialised, is_fresh, is_null}
use Rattle.bbm_rules.specs.Places.{page_of}
use Rattle.bbm_rules.specs.Tree.{Node, held_at, node_below, node_of}
use Rattle.bbm_rules.specs.Values.{value_of}
use Rattle.bbm_tree_index.specs.HeldCores.{core_with}
-- whether an address is that of a descriptor of a page; the next page of a core that is a table, and of the table that
-- a place holds; childless tables, and nodes in limbo; whether each place above a node holds something; and the node
-- where a test keeps it
pub use Rattle.bbm_tree_index.specs.HeldCores.{is_at, next_in, child, Childless, limbo_by, is_held_by, kept}

-- what a checker says, by plain functions
pub record View : Type 0 where
  -- of a place: its value, how far each PE is cleansed where it is broken, and what waits for the TLBIs of an issuer
  pub value : ℕ → ℕ
  pub marks : ℕ → Option Marks
  pub pends : ℕ → ℕ → Pends
  -- of a page: whether its values are kept, its node, and whether it is fresh, a null page, or was ever initialised
  pub tracked : ℕ → Bool
  pub node : ℕ → Option Node
  pub fresh : ℕ → Bool
  pub null : ℕ → Bool
  pub known : ℕ → Bool
  -- how many pages were ever initialised
  pub pages : ℕ

-- the core of what a place holds that is read at this kind and level
abbrev pub core_at : View → Kind → ℕ → ℕ → Option Core
core_at view kind level a = core_with (view.marks a) kind level (view.value a)

-- whether each page is a null page
abbrev pub SameNull : List Event → (ℕ → Bool) → Type 0
SameNull h null = (p : ℕ) → null p ≡ is_null h p

-- the value of each place
abbrev pub SameValues : List Event → (ℕ → ℕ) → Type 0
SameValues h value = (a : ℕ) → value a ≡ value_of h a

-- whether each page was ever initialised
abbrev pub SameKnown : List Event → (ℕ → Bool) → Type 0
SameKnown h known = (p : ℕ) → known p ≡ among p (initialised h)

module _ (heading : Heading) (h : List Event) where
  -- the annotated history, where every pattern of events counts
  abbrev pub notes : List Noted
  notes = noted heading Patterns h

  -- each event of the history fits the header
  abbrev pub AllFit : Type 0
  AllFit = every (fits_heading heading) h ≡ true

  -- the node of each page
  abbrev pub SameNodes : (ℕ → Option Node) → Type 0
  SameNodes node = (p : ℕ) → node p ≡ node_of heading Patterns notes p

  -- whether each page is fresh
  abbrev pub SameFresh : (ℕ → Bool) → Type 0
  SameFresh fresh = (p : ℕ) → fresh p ≡ is_fresh heading Patterns notes p

  -- the core of what each place of a tree holds, given its kind, level and address
  abbrev pub SameCores : (Kind → ℕ → ℕ → Option Core) → Type 0
  SameCores core = (n : Node) (a : ℕ) → node_of heading Patterns notes (page_of a) ≡ Some n
      → core n.kind n.level a ≡ option_and_then (core_of n.kind n.level) (held_at heading Patterns notes n a)

-- the core of what a place of a node holds after an event that leaves the node and is no DSB, by that before it: a
-- valid write of the place makes it that of its value
abbrev pub core_after : Node → Event → ℕ → Option Core → Option Core
core_after n (Write pe place v) a before =
    if a == place && is_valid n.kind n.level v then core_of n.kind n.level v else before
core_after n _ a before = before

-- The node m hangs at a place of the node n.
pub record Hangs (node : ℕ → Option Node) (core : Kind → ℕ → ℕ → Option Core) (place : ℕ) (m : Node) : Type 0 where
  pub parent : Node
  pub is_parent : node (page_of place) ≡ Some parent
  pub at : is_at parent.page place ≡ true
  pub table : child core parent place ≡ Some m.page
  pub is_below : m ≡ node_below parent place m.page
