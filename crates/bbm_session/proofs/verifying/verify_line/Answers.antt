use Rattle.bbm_rules.proofs.Common.{ok_or}
use Rattle.bbm_session.proofs.CertificateLines.{certified-takes, certified-few}
use Rattle.bbm_session.proofs.verifying.verify_line.Goals as goal

pub returns-clause-takes : goal.returns-clause-takes
returns-clause-takes c = λ reader p certifies.
    certified-takes c.args.header.now c.args.kept.now c.take_line.new.kept reader p c.args.number c.args.line.now c.take_line.result (ok_or c.turned.result c.turned.new.stop)
    c.turned.ensures certifies c.take_line.ensures.sound c.take_line.ensures.counted c.take_line.ensures.listed (c.take_line.ensures.says c.args.number)

pub returns-clause-few : goal.returns-clause-few
returns-clause-few c = λ taken. certified-few c.args.header.now c.args.kept.now c.args.number c.requires
