use Rattle.bbm_texts.proofs.Common.{ReportsDecided}
use Rattle.bbm_rules.proofs.Common.{Some, sym, subst}
use Rattle.bbm_texts.specs.declared.commands.Command.TheVariants as command_of
use Rattle.bbm_texts.specs.declared.commands.Evidence.{Evidence}
use Rattle.bbm_texts.proofs.showing.report_evidence.Goals as goal

pub returns-in-Idle : goal.returns-in-Idle
returns-in-Idle g c = λ h knows.
    subst (λ (evidence : Evidence). ReportsDecided (command_of.Show evidence) (Some c.args.header.now) h c.args.decision.now c.report_idles.result (g.K.Sink.held c.args.out.now) (g.K.Sink.held c.report_idles.new.out) (g.K.Sink.faults c.args.out.now) (g.K.Sink.faults c.report_idles.new.out)) (sym c.in-Idle.is)
    (c.report_idles.ensures h knows.0)

pub returns-in-Cert : goal.returns-in-Cert
returns-in-Cert g c = λ h knows.
    subst (λ (evidence : Evidence). ReportsDecided (command_of.Show evidence) (Some c.args.header.now) h c.args.decision.now c.report_cert.result (g.K.Sink.held c.args.out.now) (g.K.Sink.held c.report_cert.new.out) (g.K.Sink.faults c.args.out.now) (g.K.Sink.faults c.report_cert.new.out)) (sym c.in-Cert.is)
    (c.report_cert.ensures h knows.0)
