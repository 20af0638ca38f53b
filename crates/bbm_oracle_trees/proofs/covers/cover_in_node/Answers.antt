use Rattle.bbm_rules.proofs.Common.{sym, ◌∙◌, held_at}
use Rattle.bbm_oracle_trees.specs.Past.{notes}
use Rattle.bbm_oracle_trees.proofs.Covering.{cover_missed}
use Rattle.bbm_oracle_trees.proofs.covers.cover_in_node.Goals as goal

pub returns-then-misses : goal.returns-then-misses
returns-then-misses g c =
    let past = c.args.log.now in
    let tlbi = c.args.tlbi.now in
    let node = c.args.node.now in
    cover_missed past.heading past.trust (notes past) tlbi.covering tlbi.scope tlbi.vmid node c.args.place
    (held_at past.heading past.trust (notes past) node c.args.place)
    (λ w v is. c.misses.ensures c.if-misses.true w v (is ∙ sym c.region.ensures))
