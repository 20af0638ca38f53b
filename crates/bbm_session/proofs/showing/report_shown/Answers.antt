use Rattle.bbm_session.proofs.Common.{Stop, KnowsAt, ReportsShown}
use Rattle.bbm_rules.proofs.Common.{Some, sym, subst}
use Rattle.bbm_texts.specs.declared.commands.Command.TheVariants as command_of
use Rattle.bbm_session.proofs.showing.report_shown.Goals as goal

pub returns-in-Decided : goal.returns-in-Decided
returns-in-Decided g c = λ h knows.
    let header = c.args.header.now in
    let stands = g.C.Checker.stands c.args.checker.now in
    let known = subst (λ (s : Stop). KnowsAt stands header h s) c.in-Decided.is knows in
    subst (λ (s : Stop). ReportsShown (command_of.Show c.args.evidence.now) (Some header) h s c.report_evidence.result (g.K.Sink.held c.args.out.now) (g.K.Sink.held c.report_evidence.new.out) (g.K.Sink.faults c.args.out.now) (g.K.Sink.faults c.report_evidence.new.out)) (sym c.in-Decided.is)
    (c.report_evidence.ensures h known)
