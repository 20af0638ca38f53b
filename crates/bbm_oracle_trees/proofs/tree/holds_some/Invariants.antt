use Rattle.bbm_rules.proofs.Common.{◌≡◌, false, take, any}
use Rattle.bbm_rules.specs.Tree.{holds_some}
use Rattle.bbm_oracle_trees.specs.Past.{notes}
use Rattle.bbm_oracle_trees.proofs.tree.holds_some.Given as goal

abbrev pub invariant-loop-place : goal.invariant-loop-place
invariant-loop-place g l =
    any (holds_some l.log.heading l.log.trust (notes l.log) l.kind l.level) (take l.place-index l.places) ≡ false
