-- What the places of trees hold, by a map: a broken place its core, another the core of its value where that is valid.
-- And what that, and the values, say of tables and nodes. Source: project's own choice.
use Rattle.std.specs.Prelude.{◌≡◌, ℕ, suc, ◌%◌, Bool, true, false, not, ◌&&◌, ◌==◌, Option, Some, None}
use Rattle.std.specs.Prelude.{is_some, if◌then◌else◌}
use Rattle.std.specs.Option.{option_map_or}
use Rattle.bbm_descriptor.specs.Descriptor.{core_of, is_valid}
use Rattle.bbm_descriptor.specs.declared.desc.Core.{Core}
use Rattle.bbm_descriptor.specs.declared.desc.Core.TheVariants.{Table}
use Rattle.bbm_entry_state.specs.declared.marks.Marks.{Marks}
use Rattle.bbm_place_map.specs.Map.{marks_at, value_at}
use Rattle.bbm_place_map.specs.declared.map.PlaceMap.{PlaceMap}
use Rattle.bbm_regimes.specs.declared.regime.Kind.{Kind}
use Rattle.bbm_rules.specs.Lists.{any, every}
use Rattle.bbm_rules.specs.Places.{page_of}
use Rattle.bbm_rules.specs.Tree.{Node}

-- whether the address is that of a descriptor of the page
abbrev pub is_at : ℕ → ℕ → Bool
is_at page place = page_of place == page && place % 8 == 0

-- the core that a place has, given its marks where it is broken, at a kind and a level, and its value
abbrev pub core_with : Option Marks → Kind → ℕ → ℕ → Option Core
core_with None kind level value = core_of kind level value
core_with (Some marks) kind level value = Some marks.core

-- the next page of a core that is a table
abbrev pub next_in : Option Core → Option ℕ
next_in (Some (Table next ns)) = Some next
next_in _ = None

module _ (map : PlaceMap) where
  -- what a place holds at a kind and a level
  abbrev pub core_at : Kind → ℕ → ℕ → Option Core
  core_at kind level place = core_with (marks_at map place) kind level (value_at map place)

  abbrev pub holds_at : Kind → ℕ → ℕ → Bool
  holds_at kind level place = is_some (core_at kind level place)

-- Limbo: the present value of a place above the node is invalid.
abbrev pub limbo_by : (ℕ → ℕ) → Node → Bool
limbo_by value n = any (λ a. not (is_valid n.kind a.level (value a.place))) n.above

-- whether each place above a node holds something
abbrev pub is_held_by : (Kind → ℕ → ℕ → Bool) → Node → Bool
is_held_by holds m = every (λ a. holds m.kind a.level a.place) m.above

module _ (core : Kind → ℕ → ℕ → Option Core) where
  -- the next page of the table that a place of a node holds
  abbrev pub child : Node → ℕ → Option ℕ
  child n place = next_in (core n.kind n.level place)

  -- Childless: the place holds a table, and no place of its next page holds anything.
  pub record Childless (n : Node) (place : ℕ) : Type 0 where
    pub next : ℕ
    pub table : child n place ≡ Some next
    pub holds_none : (a : ℕ) → is_at next a ≡ true → is_some (core n.kind (suc n.level) a) ≡ false

-- ---- pages that leave

-- the node where the test keeps it
abbrev pub kept : (Node → Bool) → Option Node → Option Node
kept keeps None = None
kept keeps (Some m) = if keeps m then Some m else None

-- whether there is a node and the test doesn't keep it
abbrev pub leaves : (Node → Bool) → Option Node → Bool
leaves keeps o = option_map_or (λ m. not (keeps m)) o false

-- the node stays when the root with this first page is detached
abbrev pub stays_without : ℕ → Node → Bool
stays_without first m = not (m.root == first)
