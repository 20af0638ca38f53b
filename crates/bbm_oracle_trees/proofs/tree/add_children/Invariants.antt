use Rattle.bbm_rules.proofs.Common.{◌≡◌, ◌++◌, take, child_at}
use Rattle.std.specs.List.{filter_map}
use Rattle.bbm_oracle_trees.specs.Past.{notes}
use Rattle.bbm_oracle_trees.proofs.tree.add_children.Given as goal

abbrev pub invariant-loop-place : goal.invariant-loop-place
invariant-loop-place g l = l.nodes.items ≡ l.initial.nodes.items
    ++ filter_map (child_at l.log.heading l.log.trust (notes l.log) l.node) (take l.place-index l.place-items)
