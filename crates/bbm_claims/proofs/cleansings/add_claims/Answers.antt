use Rattle.bbm_claims.proofs.Common.{notes_of, ends_now, tells}
use Rattle.bbm_rules.proofs.Common.{reverse, true, refl}
use Rattle.bbm_claims.proofs.OneMore.{or_more}
use Rattle.bbm_claims.proofs.cleansings.add_claims.Goals as goal

pub loop-claim-preserved : goal.loop-claim-preserved
loop-claim-preserved c = λ a p n.
    or_more (ends_now c.args.header.now c.args.newest.now (notes_of (reverse c.args.log.now)) a p n) true
    (tells c.args.kept.now.items a p n) _ (tells c.loop-claim.kept.items a p n) (tells c.add_claim.new.kept.items a p n)
    c.args.claims.now c.loop-claim.claim-index c.claim-item.result refl c.loop-claim-test.true c.claim-item.is
    (c.loop-claim.invariant a p n) (c.in_ok-add_claim.ensures a p n)
