use Rattle.bbm_rules.proofs.Common.{List, ◌∙◌, ap, take_all}
use Rattle.std.specs.List.{flat_map}
use Rattle.bbm_oracle_patterns.specs.Kept.{cover_in}
use Rattle.bbm_oracle_patterns.specs.declared.kept.Covered.{Covered}
use Rattle.bbm_oracle_trees.specs.Past.{notes}
use Rattle.bbm_oracle_trees.specs.Views.{covers_of_page}
use Rattle.bbm_oracle_trees.proofs.Covering.{covers_right}
use Rattle.bbm_oracle_trees.proofs.covers.covers_under.Goals as goal

pub returns : goal.returns
returns g c = λ place.
    ap (λ (cs : List Covered). cover_in cs place)
    (c.loop-node.invariant
    ∙ ap (flat_map (covers_of_page c.args.log.now.heading c.args.log.now.trust (notes c.args.log.now)
    c.args.tlbi.now.covering c.args.tlbi.now.scope c.args.tlbi.now.vmid))
    (take_all c.loop-node.node-index c.args.tree.now c.loop-node-test.false ∙ c.requires))
    ∙ covers_right c.args.log.now.heading c.args.log.now.trust (notes c.args.log.now)
    c.args.tlbi.now.covering c.args.tlbi.now.scope c.args.tlbi.now.vmid place
