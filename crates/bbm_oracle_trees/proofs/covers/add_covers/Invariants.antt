use Rattle.bbm_rules.proofs.Common.{◌≡◌, ◌++◌, take}
use Rattle.std.specs.List.{flat_map}
use Rattle.bbm_oracle_trees.specs.Past.{notes}
use Rattle.bbm_oracle_trees.specs.Views.{covered_under}
use Rattle.bbm_oracle_trees.proofs.covers.add_covers.Given as goal

abbrev pub invariant-loop-place : goal.invariant-loop-place
invariant-loop-place g l = l.covers.items ≡ l.initial.covers.items
    ++ flat_map (covered_under l.log.heading l.log.trust (notes l.log) l.tlbi.covering l.tlbi.scope l.tlbi.vmid)
    (take l.place-index l.place-items)
