use Rattle.bbm_rules.proofs.Common.{◌≡◌, take}
use Rattle.bbm_oracle_trees.specs.Past.{notes}
use Rattle.bbm_oracle_trees.specs.Views.{covers_of_page}
use Rattle.std.specs.List.{flat_map}
use Rattle.bbm_oracle_trees.proofs.covers.covers_under.Given as goal

abbrev pub invariant-loop-node : goal.invariant-loop-node
invariant-loop-node g l = l.covers.items
    ≡ flat_map (covers_of_page l.log.heading l.log.trust (notes l.log) l.tlbi.covering l.tlbi.scope l.tlbi.vmid)
    (take l.node-index l.tree)
