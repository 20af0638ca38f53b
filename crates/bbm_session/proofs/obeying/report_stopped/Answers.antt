use Rattle.bbm_session.proofs.Common.{IsOutputFor, Stop, KnowsAt, Reports}
use Rattle.bbm_rules.proofs.Common.{Some, sym, subst}
use Rattle.bbm_session.proofs.obeying.report_stopped.Goals as goal

pub report-requires-clause-known : goal.report-requires-clause-known
report-requires-clause-known g c =
    let stands = g.C.Checker.stands c.args.checker.now in
    let h = c.requires.known.0 in
    (h, subst (λ (s : Stop). KnowsAt stands c.args.header.now h s) c.in-Decided.is c.requires.known.1)

pub returns-in-Decided : goal.returns-in-Decided
returns-in-Decided g c = λ h knows.
    let header = c.args.header.now in
    let stands = g.C.Checker.stands c.args.checker.now in
    let known = subst (λ (s : Stop). KnowsAt stands header h s) c.in-Decided.is knows in
    subst (λ (s : Stop). Reports (IsOutputFor c.args.command.now (Some header) h) s c.report.result (g.K.Sink.held c.args.out.now) (g.K.Sink.held c.report.new.out) (g.K.Sink.faults c.args.out.now) (g.K.Sink.faults c.report.new.out)) (sym c.in-Decided.is)
    (c.report.ensures h known)
