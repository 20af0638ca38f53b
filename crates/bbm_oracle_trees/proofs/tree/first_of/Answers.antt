use Rattle.bbm_rules.proofs.Common.{◌≡◌, ◌==◌, true, false, sym, ◌∙◌, Node}
use Rattle.bbm_oracle_trees.proofs.Finds.{find_found, find_next}
use Rattle.bbm_oracle_trees.proofs.tree.first_of.Goals as goal

pub returns-then-eq : goal.returns-then-eq
returns-then-eq c =
    let hit : (c.node-item.result.page == c.args.page) ≡ true = rw (← c.node.view_is) (sym c.eq.ensures ∙ c.if-eq.true) in
    find_found (λ (n : Node). n.page == c.args.page) c.args.nodes.now c.loop-node.node-index c.node-item.result
    c.loop-node-test.true c.node-item.is c.loop-node.invariant hit

pub loop-node-preserved : goal.loop-node-preserved
loop-node-preserved c =
    let miss : (c.node-item.result.page == c.args.page) ≡ false = rw (← c.node.view_is) (sym c.eq.ensures ∙ c.if-eq.false) in
    find_next (λ (n : Node). n.page == c.args.page) c.args.nodes.now c.loop-node.node-index c.node-item.result
    c.loop-node-test.true c.node-item.is c.loop-node.invariant miss
