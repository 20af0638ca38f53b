use Rattle.bbm_rules.proofs.Common.{List, ◌++◌, ◌∙◌, ap, Node, child_at}
use Rattle.std.specs.Option.{option_to_list}
use Rattle.bbm_oracle_trees.specs.Past.{notes}
use Rattle.bbm_oracle_trees.proofs.Finds.{filter_map_behind}
use Rattle.bbm_oracle_trees.proofs.tree.add_children.Goals as goal

pub loop-place-preserved : goal.loop-place-preserved
loop-place-preserved g c =
    c.in_ok-add_child.ensures
    ∙ ap (λ (ns : List Node). ns ++ option_to_list (child_at c.args.log.now.heading c.args.log.now.trust (notes c.args.log.now) c.args.node.now c.place-item.result)) c.loop-place.invariant
    ∙ filter_map_behind (child_at c.args.log.now.heading c.args.log.now.trust (notes c.args.log.now) c.args.node.now) c.args.nodes.now.items
    c.deref-place-items.result.now c.loop-place.place-index c.place-item.result c.loop-place-test.true c.place-item.is
