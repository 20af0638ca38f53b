use Rattle.bbm_claims.proofs.Cleansed.{topped_more}
use Rattle.bbm_claims.proofs.cleansings.all_topped.Goals as goal

pub loop-kept-preserved : goal.loop-kept-preserved
loop-kept-preserved c =
    rw c.in_ok-push.ensures.items
    (topped_more c.loop-kept.tops.items c.args.log.now c.loop-kept.kept-index c.in_ok-top.top c.kept-item.result
    c.loop-kept-test.true c.kept-item.is c.loop-kept.invariant c.in_ok-top.ensures)
