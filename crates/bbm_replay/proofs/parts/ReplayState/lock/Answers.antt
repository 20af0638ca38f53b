use Rattle.bbm_rules.proofs.Common.{refl, Lock}
use Rattle.bbm_replay.proofs.Meeting.{meets_judged}
use Rattle.bbm_replay.proofs.parts.ReplayState.lock.Goals as goal

pub returns : goal.returns
returns c = meets_judged c.laws.ensures c.args.self.now c.lock.new.self (Lock c.args.pe c.args.lock) c.requires refl c.lock.result
    c.lock.ensures.judged c.lock.ensures.limit c.lock.ensures.tried.taken c.lock.ensures.tried.kept
