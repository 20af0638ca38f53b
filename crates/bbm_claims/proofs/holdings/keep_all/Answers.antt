use Rattle.bbm_claims.proofs.Common.{has}
use Rattle.bbm_rules.proofs.Common.{reverse}
use Rattle.bbm_claims.proofs.HeldTags.{keep_more}
use Rattle.bbm_claims.proofs.holdings.keep_all.Goals as goal

pub loop-holding-preserved : goal.loop-holding-preserved
loop-holding-preserved c = λ p root tag.
    keep_more c.args.header.now (reverse c.args.events.now) c.args.losses.now c.args.held.now
    c.loop-holding.holding-index
    c.holding-item.result p root tag (has c.loop-holding.kept.items p root tag) (has c.keep.new.kept.items p root tag)
    c.loop-holding-test.true c.holding-item.is (c.loop-holding.invariant p root tag) (c.in_ok-keep.ensures p root tag)
