use Rattle.bbm_unmapped.specs.Unmapped.{IsSame}
use Rattle.bbm_replay.proofs.Guarding.{becomes}
use Rattle.bbm_replay.proofs.guard.reserve.Goals as goal

pub returns-in-Ok-clause-same : goal.returns-in-Ok-clause-same
returns-in-Ok-clause-same c =
    becomes IsSame c.args.kept.now c.in-Some.unmapped c.reserve.new.self c.in-Some.is c.reserve.ensures.same

pub returns-in-Err-clause-same : goal.returns-in-Err-clause-same
returns-in-Err-clause-same c =
    becomes IsSame c.args.kept.now c.in-Some.unmapped c.reserve.new.self c.in-Some.is c.reserve.ensures.same
