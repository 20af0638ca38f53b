-- What the law of the cores of what the places of trees hold states. A history is newest first.
use Rattle.std.specs.Prelude.{◌≡◌, ℕ, true, List, ◌∷◌, Some, None, is_some, if◌then◌else◌}
use Rattle.bbm_descriptor.specs.Descriptor.{core_of}
use Rattle.bbm_histories.specs.TreeChanges.{Proper}
use Rattle.bbm_rules.specs.Broken.{keeps}
use Rattle.bbm_rules.specs.Claims.Trust.{Patterns}
use Rattle.bbm_rules.specs.Places.{page_of}
use Rattle.bbm_rules.specs.Prelude.{Barrier, Heading, Event, Dsb}
use Rattle.bbm_rules.specs.Tree.{Node, held_at}
use Rattle.bbm_replay_trees.specs.Told.{SameCores, SameNodes, SameValues, View, core_after, core_at, notes}

-- The cores of what the places of trees hold after an event that breaks no rule, by those before it. After an event
-- that is no DSB: at a place of a page that was in a tree before, a valid write of the place makes it that of its
-- value, and else it stays; at a place of a page that comes into a tree, it is that of the present value. After a DSB
-- it stays where the place still holds something.
pub record CoresAfter (heading : Heading) : Type 0 where
  pub step : (h : List Event) (old new : View) (e : Event) → Proper heading → keeps heading Patterns (e ∷ h) ≡ true
      → ((q : ℕ) (dsb : Barrier) → e ≡ Dsb q dsb → ⊥) → SameNodes heading h old.node
      → SameNodes heading (e ∷ h) new.node → SameValues (e ∷ h) new.value → SameCores heading h (core_at old)
      → ((n : Node) (a : ℕ) → new.node (page_of a) ≡ Some n → core_at new n.kind n.level a
      ≡ (if is_some (old.node (page_of a)) then core_after n e a (core_at old n.kind n.level a)
      else core_of n.kind n.level (new.value a)))
      → SameCores heading (e ∷ h) (core_at new)
  pub dsb : (h : List Event) (old new : View) (pe : ℕ) (dsb : Barrier) → Proper heading
      → keeps heading Patterns (Dsb pe dsb ∷ h) ≡ true → SameNodes heading (Dsb pe dsb ∷ h) new.node
      → SameCores heading h (core_at old)
      → ((n : Node) (a : ℕ) → new.node (page_of a) ≡ Some n → core_at new n.kind n.level a
      ≡ (if is_some (held_at heading Patterns (notes heading (Dsb pe dsb ∷ h)) n a) then core_at old n.kind n.level a
      else None))
      → SameCores heading (Dsb pe dsb ∷ h) (core_at new)
