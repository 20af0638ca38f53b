use Rattle.bbm_claims.proofs.Kepts.{events_more}
use Rattle.bbm_rules.proofs.Common.{rules}
use Rattle.bbm_claims.proofs.holdings.events_in.Goals as goal

pub loop-kept-preserved : goal.loop-kept-preserved
loop-kept-preserved c =
    events_more c.args.log.now c.loop-kept.kept-index c.kept-item.result _ c.loop-kept.events.items c.push.new.self.items
    (search rules) c.loop-kept-test.true c.kept-item.is c.loop-kept.invariant c.in_ok-push.ensures.items
