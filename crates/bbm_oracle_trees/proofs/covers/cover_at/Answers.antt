use Rattle.bbm_rules.proofs.Common.{◌≡◌, Some, refl, sym, ◌∙◌, IfOk-weaker, Cover, page_of, held_at, node_of}
use Rattle.bbm_oracle_trees.specs.Past.{notes}
use Rattle.bbm_oracle_trees.specs.Views.{cover_under}
use Rattle.bbm_oracle_trees.proofs.Covering.{cover_at_node, cover_under_node}
use Rattle.bbm_oracle_trees.proofs.covers.cover_at.Goals as goal

pub returns-in-Some : goal.returns-in-Some
returns-in-Some g c =
    let past = c.args.log.now in
    let tlbi = c.args.tlbi.now in
    let node = c.in-Some.node.now in
    let at : node_of past.heading past.trust (notes past) (page_of c.args.place) ≡ Some node =
    sym (rw (c.requires.tree, c.page.ensures) at c.in-Some.ensures) in
    IfOk-weaker c.cover_in_node.result
    (λ (cover : Cover). cover ≡ cover_at_node past.heading past.trust (notes past) tlbi.covering tlbi.scope tlbi.vmid node
    c.args.place (held_at past.heading past.trust (notes past) node c.args.place))
    (λ (cover : Cover). cover ≡ cover_under past.heading past.trust (notes past) tlbi.covering tlbi.scope tlbi.vmid c.args.place)
    (λ cover e. e
    ∙ cover_under_node past.heading past.trust (notes past) tlbi.covering tlbi.scope tlbi.vmid c.args.place (Some node) node at refl)
    c.cover_in_node.ensures
