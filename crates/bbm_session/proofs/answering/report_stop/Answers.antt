use Rattle.bbm_session.proofs.Common.{IsOutputFor, Stop, IsBrief, Reports}
use Rattle.bbm_rules.proofs.Common.{sym, subst}
use Rattle.bbm_rules.specs.Texts.{verdict_text}
use Rattle.bbm_session.proofs.answering.report_stop.Goals as goal

pub returns-in-Decided-clause-brief : goal.returns-in-Decided-clause-brief
returns-in-Decided-clause-brief g c = λ brief command heading h.
    let decision = c.in-Decided.decision in
    let ends = subst (λ (s : Stop). IsBrief s) c.in-Decided.is brief in
    subst (λ (s : Stop). Reports (IsOutputFor command heading h) s c.report_verdict.result (g.K.Sink.held c.args.out.now) (g.K.Sink.held c.report_verdict.new.out) (g.K.Sink.faults c.args.out.now) (g.K.Sink.faults c.report_verdict.new.out)) (sym c.in-Decided.is)
    (verdict_text decision.verdict, c.report_verdict.ensures.alone ends command heading h decision.refused, c.report_verdict.ensures.wrote)
