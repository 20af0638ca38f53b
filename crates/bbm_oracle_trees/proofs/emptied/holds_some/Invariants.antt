use Rattle.bbm_rules.proofs.Common.{◌≡◌, ℕ, false, take, any}
use Rattle.bbm_oracle_trees.specs.Emptied.{holds_by}
use Rattle.bbm_oracle_trees.specs.Past.{notes}
use Rattle.bbm_oracle_trees.proofs.emptied.holds_some.Given as goal

abbrev pub invariant-loop-place : goal.invariant-loop-place
invariant-loop-place g l = any (λ (below : ℕ). holds_by l.taken.heading l.taken.trust l.emptied l.kind l.level below
    (notes l.taken)) (take l.place-index l.places) ≡ false
