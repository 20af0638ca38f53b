use Rattle.bbm_replay.proofs.Common.{PlaceMap, ReplayState}
use Rattle.bbm_rules.proofs.Common.{ap}
use Rattle.bbm_replay.proofs.parts.ReplayState.position.Goals as goal

pub returns-clause-same : goal.returns-clause-same
returns-clause-same c = ap (λ (m : PlaceMap). (let p : ReplayState = record c.args.self.now { map = m } in p)) c.find.ensures.same
