use Rattle.bbm_rules.proofs.Common.{◌*◌, lit≤}
use Rattle.bbm_session.proofs.Stages.{shrinks-trans, closes-ends}
use Rattle.bbm_session.proofs.reading.read_log.Goals as goal

pub returns-in-Ok-clause-ends : goal.returns-in-Ok-clause-ends
returns-in-Ok-clause-ends g c = λ reader p inside stands.
    let reached = c.in-Ok.ensures.reaches reader p inside stands in
    let closes = c.nothing_follows.ensures.closes reader reached.0 reached.1 reached.4 in
    closes-ends reader (g.T.Taker.stands c.log_lines.new.taker reader c.args.header.now) p c.in-Ok.number c.nothing_follows.result _ _ _ _ _ _ reached closes c.nothing_follows.ensures.brief

pub returns-in-Ok-clause-shrinks : goal.returns-in-Ok-clause-shrinks
returns-in-Ok-clause-shrinks g c = shrinks-trans (201 * 4294967296) 201 (201 * 4294967297) _ _ _ (lit≤ tt) c.in-Ok.ensures.shrinks c.nothing_follows.ensures.shrinks
