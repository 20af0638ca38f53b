-- Step equations of the trees: whether a table is childless, whether a node is in limbo, and the node of a page after
-- an event, by what was so before it at the same places. Source: project's own choice.
use Rattle.std.specs.Prelude.{◌≡◌, ℕ, Bool, true, false, not, ◌&&◌, ◌==◌, List, ◌∷◌, Option, Some, None, is_some}
use Rattle.std.specs.Prelude.{if◌then◌else◌}
use Rattle.bbm_descriptor.specs.Descriptor.{is_valid}
use Rattle.bbm_rules.specs.Prelude.{Kind, Heading, Event, Init, Write}
use Rattle.bbm_rules.specs.Claims.{Trust}
use Rattle.bbm_rules.specs.Held.{held}
use Rattle.bbm_rules.specs.Lists.{◌>>=◌, every}
use Rattle.bbm_rules.specs.Notes.{Noted, events_of}
use Rattle.bbm_rules.specs.Places.{page_of}
use Rattle.bbm_rules.specs.Tree.{Above, Node}
use Rattle.bbm_rules.specs.Values.{value_of}

-- ---- childless

-- whether a table is childless after an event that is no DSB, by whether it was before; its next page is of this kind
-- and level
abbrev pub childless_after : Kind → ℕ → ℕ → Event → Bool → Bool
childless_after kind level next (Write pe at value) before =
    if page_of at == next && is_valid kind level value then false else before
childless_after kind level next (Init pe page) before = if page == next then true else before
childless_after kind level next _ before = before

module _ (heading : Heading) (trust : Trust) (kind : Kind) (level page : ℕ) where
  -- no place of the page holds anything
  abbrev pub HoldsNone : List Noted → Type 0
  HoldsNone h = (place : ℕ) → page_of place ≡ page → held heading trust kind level place h ≡ None

  -- each place of the page that held something before the event holds nothing after it
  abbrev pub EndsAll : Noted → List Noted → Type 0
  EndsAll n h = (place : ℕ) → page_of place ≡ page → is_some (held heading trust kind level place h) ≡ true
      → held heading trust kind level place (n ∷ h) ≡ None

-- ---- limbo

-- whether the present value of a place above is invalid
abbrev pub invalid_at : Kind → List Noted → Above → Bool
invalid_at kind h a = not (is_valid kind a.level (value_of (events_of h) a.place))

-- the same after an event
abbrev pub invalid_after : Kind → Event → List Noted → Above → Bool
invalid_after kind (Write pe at value) h a =
    if at == a.place then not (is_valid kind a.level value) else invalid_at kind h a
invalid_after kind (Init pe page) h a = if page == page_of a.place then true else invalid_at kind h a
invalid_after kind _ h a = invalid_at kind h a

-- ---- the node of a page

-- the node that was there, where it passes the test
abbrev pub node_where : (Node → Bool) → Option Node → Option Node
node_where test o = o >>= (λ m. if test m then Some m else None)

abbrev pub is_under : ℕ → Node → Bool
is_under page m = m.root == page

-- whether each place above the node holds something
abbrev pub holds_above : Heading → Trust → List Noted → Node → Bool
holds_above heading trust h m = every (λ a. is_some (held heading trust m.kind a.level a.place h)) m.above
