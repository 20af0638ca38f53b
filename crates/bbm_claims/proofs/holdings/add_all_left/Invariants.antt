use Rattle.bbm_rules.proofs.Common.{◌≡◌, ◌==◌, ◌++◌, filter, take}
use Rattle.bbm_claims.proofs.holdings.add_all_left.Given as goal

abbrev pub invariant-loop-holding : goal.invariant-loop-holding
invariant-loop-holding l =
    l.left.items ≡ l.initial.left.items ++ filter (λ x. x.root == l.root) (take l.holding-index l.held)
