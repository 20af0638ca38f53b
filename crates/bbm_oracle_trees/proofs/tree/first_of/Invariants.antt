use Rattle.bbm_rules.proofs.Common.{◌≡◌, ◌==◌, take, None}
use Rattle.std.specs.List.{find}
use Rattle.bbm_oracle_trees.proofs.tree.first_of.Given as goal

abbrev pub invariant-loop-node : goal.invariant-loop-node
invariant-loop-node l = find (λ n. n.page == l.page) (take l.node-index l.nodes) ≡ None
