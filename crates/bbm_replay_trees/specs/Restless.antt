-- The restless places, as a numbering has each of them once. Source: project's own choice.
use Rattle.std.specs.Prelude.{◌≡◌, ℕ, ◌<◌, true, List}
use Rattle.bbm_rules.specs.Prelude.{Heading, Event}
use Rattle.bbm_rules.specs.Claims.Trust.{Patterns}
use Rattle.bbm_rules.specs.Phases.{is_restless}
use Rattle.bbm_replay_trees.specs.Told.{notes}

-- the restless places by a number below the count, each once
pub record Numbers (heading : Heading) (h : List Event) (count : ℕ) (place : ℕ → ℕ) : Type 0 where
  pub restless : (i : ℕ) → i < count → is_restless heading Patterns (notes heading h) (place i) ≡ true
  pub each : (a : ℕ) → is_restless heading Patterns (notes heading h) a ≡ true → (i : ℕ) × (i < count) × (place i ≡ a)
  pub once : (i j : ℕ) → i < count → j < count → place i ≡ place j → i ≡ j
