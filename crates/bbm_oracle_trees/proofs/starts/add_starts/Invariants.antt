use Rattle.bbm_rules.proofs.Common.{◌≡◌, ◌++◌, take, starts_at}
use Rattle.std.specs.List.{flat_map}
use Rattle.bbm_oracle_trees.proofs.starts.add_starts.Given as goal

abbrev pub invariant-loop-root : goal.invariant-loop-root
invariant-loop-root l =
    l.nodes.items ≡ l.initial.nodes.items ++ flat_map (starts_at l.header l.level) (take l.root-index l.roots)
