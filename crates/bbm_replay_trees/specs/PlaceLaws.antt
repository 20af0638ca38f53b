-- What the laws of places in limbo, of childless tables, and of restless places state. A history is newest first.
use Rattle.std.specs.Prelude.{◌≡◌, ℕ, ◌↔◌, true, List, [], length, Some, Contains}
use Rattle.bbm_rules.specs.Broken.{keeps}
use Rattle.bbm_rules.specs.Claims.Trust.{Patterns}
use Rattle.bbm_rules.specs.Lists.{repeated}
use Rattle.bbm_rules.specs.Phases.{is_restless, restless_of}
use Rattle.bbm_rules.specs.Places.{page_of}
use Rattle.bbm_rules.specs.Prelude.{Heading, Event}
use Rattle.bbm_rules.specs.Tree.{Node, held_at, in_limbo, is_childless}
use Rattle.bbm_replay_trees.specs.Restless.{Numbers}
use Rattle.bbm_replay_trees.specs.Told.{AllFit, Childless, SameCores, SameNodes, SameValues, View, core_at, limbo_by}
use Rattle.bbm_replay_trees.specs.Told.{notes}

-- A node is in limbo exactly where the present value of some place above it is invalid.
abbrev pub LimboByValues : Heading → Type 0
LimboByValues heading = (h : List Event) (view : View) (n : Node) → SameValues h view.value
    → in_limbo (notes heading h) n ≡ limbo_by view.value n

-- In a history that keeps the rules, the value that a place of a tree holds is a childless table exactly where the
-- place holds a table and no place of its next page holds anything.
abbrev pub ChildlessByCores : Heading → Type 0
ChildlessByCores heading = (h : List Event) (view : View) (n : Node) (place value : ℕ) → keeps heading Patterns h ≡ true
    → AllFit heading h → SameNodes heading h view.node → SameCores heading h (core_at view)
    → view.node (page_of place) ≡ Some n → held_at heading Patterns (notes heading h) n place ≡ Some value
    → (is_childless heading Patterns (notes heading h) n value ≡ true) ↔ Childless (core_at view) n place

-- The number of restless places is the length of any list that has each of them once and no other place, and the count
-- of any numbering of them.
pub record RestlessCounted (heading : Heading) : Type 0 where
  pub listed : (h : List Event) (places : List ℕ) → repeated places ≡ []
      → ((a : ℕ) → Contains places a ↔ (is_restless heading Patterns (notes heading h) a ≡ true))
      → restless_of heading Patterns h ≡ length places
  pub numbered : (h : List Event) (count : ℕ) (place : ℕ → ℕ) → Numbers heading h count place
      → restless_of heading Patterns h ≡ count
