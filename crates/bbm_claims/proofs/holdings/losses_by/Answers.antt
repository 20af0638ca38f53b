use Rattle.bbm_claims.proofs.Common.{is_lost}
use Rattle.bbm_rules.proofs.Common.{reverse, true, false, refl}
use Rattle.bbm_histories.specs.ClaimSteps.{completes_taken}
use Rattle.bbm_claims.proofs.OneMore.{or_more}
use Rattle.bbm_claims.proofs.holdings.losses_by.Goals as goal

pub loop-claim-preserved : goal.loop-claim-preserved
loop-claim-preserved c = λ p tag.
    or_more
    (completes_taken c.args.header.now p tag c.args.answer.now.issuer c.args.answer.now.dsb
    (reverse c.args.before.now.events.now))
    true false _ (is_lost c.loop-claim.losses.items p tag) (is_lost c.add_loss.new.losses.items p tag) c.args.claims.now
    c.loop-claim.claim-index c.claim-item.result refl c.loop-claim-test.true c.claim-item.is
    (c.loop-claim.invariant p tag) (c.in_ok-add_loss.ensures p tag)
