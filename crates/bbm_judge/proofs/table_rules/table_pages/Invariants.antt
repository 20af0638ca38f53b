use Rattle.bbm_rules.proofs.Common.{◌≡◌, map, take, Node}
use Rattle.bbm_judge.proofs.table_rules.table_pages.Given as goal

abbrev pub invariant-loop-node : goal.invariant-loop-node
invariant-loop-node g l = l.pages.items ≡ map (λ (n : Node). n.page) (take l.node-index l.node-items)
