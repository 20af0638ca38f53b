-- Which lock a place is written under, and how a lock changes hands. A history is newest first.
-- Source: project's own choice.
use Rattle.std.specs.Prelude.{◌≡◌, ℕ, List, ◌∷◌, ◌++◌, Option}
use Rattle.bbm_rules.specs.Prelude.{Heading, Event, Lock, Unlock}
use Rattle.bbm_rules.specs.Claims.{Trust}
use Rattle.bbm_rules.specs.Covers.{noted}
use Rattle.bbm_rules.specs.Lists.{◌>>=◌}
use Rattle.bbm_rules.specs.Places.{page_of}
use Rattle.bbm_rules.specs.Roots.{lock_of}
use Rattle.bbm_rules.specs.Tree.{node_of}

-- The lock of a place: the one that the root of its tree names. None where the place is in no tree, and where the root
-- names none.
abbrev pub lock_at : Heading → Trust → List Event → ℕ → Option ℕ
lock_at heading trust h place =
    node_of heading trust (noted heading trust h) (page_of place) >>= (λ n. lock_of h n.root)

-- the PE p gives the lock back, and later q takes it
pub record HandsOver (p q lock : ℕ) (between : List Event) : Type 0 where
  pub newer : List Event
  pub middle : List Event
  pub older : List Event
  pub split : between ≡ newer ++ Lock q lock ∷ (middle ++ Unlock p lock ∷ older)
