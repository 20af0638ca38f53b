use Rattle.bbm_rules.proofs.Common.{◌≡◌, ◌++◌, take, children}
use Rattle.std.specs.List.{flat_map}
use Rattle.bbm_oracle_trees.specs.Past.{notes}
use Rattle.bbm_oracle_trees.proofs.tree.add_below.Given as goal

abbrev pub invariant-loop-node : goal.invariant-loop-node
invariant-loop-node g l = l.nodes.items ≡ l.initial.nodes.items
    ++ flat_map (children l.log.heading l.log.trust (notes l.log)) (take l.node-index l.parents)
