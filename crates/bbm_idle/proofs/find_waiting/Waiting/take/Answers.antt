use Rattle.bbm_rules.proofs.Common.{true, false}
use Rattle.bbm_idle.proofs.FindWaiting.{waits_kept}
use Rattle.bbm_idle.proofs.find_waiting.Waiting.take.Goals as goal

pub returns : goal.returns
returns c = λ heading h is told. record {
  local = λ q. waits_kept heading c.args.event.now h false q c.args.is_idle _ _ told (is.local q) (c.waiting_after-self.ensures q);
  broadcast = λ q. waits_kept heading c.args.event.now h true q c.args.is_idle _ _ told (is.broadcast q) (c.waiting_after-self-2.ensures q);
}
