use Rattle.bbm_rules.proofs.Common.{◌≡◌, ◌++◌, pages_from, nodes_of_pages}
use Rattle.bbm_oracle_trees.proofs.starts.add_pages.Given as goal

abbrev pub invariant-loop-index : goal.invariant-loop-index
invariant-loop-index l =
    l.nodes.items ≡ l.initial.nodes.items
    ++ nodes_of_pages l.start.kind l.start.level l.start.root l.start.first (pages_from l.start.root l.index)
