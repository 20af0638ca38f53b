use Rattle.bbm_rules.proofs.Common.{refl, Unlock}
use Rattle.bbm_replay.proofs.Meeting.{meets_judged}
use Rattle.bbm_replay.proofs.parts.ReplayState.unlock.Goals as goal

pub returns : goal.returns
returns c = meets_judged c.laws.ensures c.args.self.now c.unlock.new.self (Unlock c.args.pe c.args.lock) c.requires refl c.unlock.result
    c.unlock.ensures.judged c.unlock.ensures.limit c.unlock.ensures.tried.taken c.unlock.ensures.tried.kept
