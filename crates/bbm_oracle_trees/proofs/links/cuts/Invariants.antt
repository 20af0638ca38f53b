use Rattle.bbm_rules.proofs.Common.{◌≡◌, false, take, any}
use Rattle.bbm_oracle_trees.specs.Links.{is_cut}
use Rattle.bbm_oracle_trees.specs.Past.{notes}
use Rattle.bbm_oracle_trees.proofs.links.cuts.Given as goal

abbrev pub invariant-loop-node : goal.invariant-loop-node
invariant-loop-node g l =
    any (is_cut l.log.heading l.log.trust (notes l.log)) (take l.node-index l.tree) ≡ false
