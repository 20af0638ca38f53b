use Rattle.bbm_session.proofs.Common.{Limits, is_frugal, Unjudged}
use Rattle.bbm_rules.proofs.Common.{[], Some, subst, AtHeader, events_in}
use Rattle.bbm_session.proofs.Served.{answered-judged, judged-for}
use Rattle.bbm_session.proofs.Stages.{some-heads}
use Rattle.bbm_session.proofs.obeying.obey.Goals as goal

pub report_stopped-requires-clause-known : goal.report_stopped-requires-clause-known
report_stopped-requires-clause-known g c =
    let judged = c.in-Ok.ensures.judged.1 in
    (events_in judged.reached, judged.known)

pub returns-in-Ok-clause-obeys : goal.returns-in-Ok-clause-obeys
returns-in-Ok-clause-obeys g c = λ frugal.
    let command = c.args.command.now in
    let header = c.in-Ok.judgement.header in
    let stop = c.in-Ok.judgement.stop in
    let judged = judged-for command _ header stop _ _ _ _ _ _ (frugal c.in-Ok.ensures.judged.0) c.limits.ensures
    c.in-Ok.ensures.judged.1 in
    answered-judged _ _ command (Some header) judged.reached stop judged.stops
    (c.report_stopped.ensures (events_in judged.reached) judged.known) judged.heads

pub returns-in-Err-clause-obeys : goal.returns-in-Err-clause-obeys
returns-in-Err-clause-obeys g c = λ frugal.
    let command = c.args.command.now in
    let heads = some-heads (g.S.Source.left c.args.log.now) in
    let unjudged = subst (λ (l : Limits). Unjudged (is_frugal command) l c.in-Err.stop
    (g.S.Source.left c.args.log.now) (g.S.Source.left c.judge_log.new.log)
    (g.S.Source.faults c.args.log.now) (g.S.Source.faults c.judge_log.new.log)) c.limits.ensures
    (c.in-Err.ensures.judged (is_frugal command)) in
    answered-judged _ _ command heads.0 AtHeader c.in-Err.stop unjudged.stops
    (c.report_stop.ensures.brief unjudged.brief command heads.0 []) heads.1
