use Rattle.bbm_rules.proofs.Common.{◌≡◌, false, take, any}
use Rattle.bbm_oracle_trees.specs.Links.{is_touched}
use Rattle.bbm_oracle_trees.proofs.links.touches.Given as goal

abbrev pub invariant-loop-node : goal.invariant-loop-node
invariant-loop-node l = any (is_touched l.place l.value) (take l.node-index l.tree) ≡ false
