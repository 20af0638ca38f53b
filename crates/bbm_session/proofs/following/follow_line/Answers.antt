use Rattle.bbm_rules.proofs.Common.{ok_or}
use Rattle.bbm_session.proofs.RunLines.{followed-takes, followed-few}
use Rattle.bbm_session.proofs.following.follow_line.Goals as goal

pub returns-clause-takes : goal.returns-clause-takes
returns-clause-takes c = λ reader p follows.
    followed-takes c.args.header.now c.args.steps.now.items c.take_line.new.steps.items reader p c.args.number c.args.line.now c.take_line.result (ok_or c.turned.result c.turned.new.stop)
    c.turned.ensures follows c.take_line.ensures.short c.take_line.ensures.counted (c.take_line.ensures.says c.args.number)

pub returns-clause-few : goal.returns-clause-few
returns-clause-few c = λ taken. followed-few c.args.header.now c.args.steps.now.items c.args.number c.requires
