use Rattle.bbm_rules.proofs.Common.{among}
use Rattle.bbm_rules.specs.Mapped.{place_maps}
use Rattle.bbm_oracle_trees.specs.Past.{notes}
use Rattle.bbm_oracle_trees.proofs.Keeping.{sift_more}
use Rattle.bbm_oracle_trees.proofs.clean.unmapped_in.Goals as goal

pub loop-place-preserved : goal.loop-place-preserved
loop-place-preserved g c = λ q.
    sift_more (place_maps c.args.log.now.heading c.args.log.now.trust (notes c.args.log.now) c.args.node.now q)
    c.deref-place-items.result.now c.loop-place.place-index c.place-item.result (among q c.args.pages.items)
    (among q c.loop-place.left.items) (among q c.in_ok-left.left.items) c.loop-place-test.true c.place-item.is
    (c.loop-place.invariant q) (c.in_ok-left.ensures q)
