use Rattle.bbm_rules.proofs.Common.{[], ◌*◌, lit≤}
use Rattle.bbm_follow.specs.Following as run
use Rattle.bbm_session.specs.Readers.{run_reader}
use Rattle.bbm_session.proofs.RunLines.{following-start, following-inside, follows-none}
use Rattle.bbm_session.proofs.Served.{followed-whole, followed-stopped, followed-unread}
use Rattle.bbm_session.proofs.Stages.{shrinks-trans}
use Rattle.bbm_session.proofs.following.follow.Goals as goal

pub read_log-requires-clause-begun : goal.read_log-requires-clause-begun
read_log-requires-clause-begun g c =
    let header = c.in-Ok.header in
    (run_reader, run.AtSteps header [], following-inside header [], follows-none header c.new.result.items c.new.ensures.items)

pub follow_run-requires : goal.follow_run-requires
follow_run-requires g c =
    let header = c.in-Ok.header in
    let ends = c.in-Ok-read_log.ensures.ends run_reader (run.AtSteps header []) (following-inside header []) (follows-none header c.new.result.items c.new.ensures.items) in
    record { few = ends.3.few }

pub returns-in-Ok-read_log-clause-follows : goal.returns-in-Ok-read_log-clause-follows
returns-in-Ok-read_log-clause-follows g c =
    let header = c.in-Ok.header in
    let starts = c.in-Ok.ensures.starts run_reader run.AtHeader (λ h. run.AtSteps h []) following-start in
    let ends = c.in-Ok-read_log.ensures.ends run_reader (run.AtSteps header []) (following-inside header []) (follows-none header c.new.result.items c.new.ensures.items) in
    followed-whole _ _ header c.read_log.new.taker.steps.items c.follow_run.result _ _ starts.0 starts.1 ends
    c.follow_run.ensures.followed c.report_run.ensures.reports

pub returns-in-Ok-read_log-clause-shrinks : goal.returns-in-Ok-read_log-clause-shrinks
returns-in-Ok-read_log-clause-shrinks g c = shrinks-trans 201 (201 * 4294967297) (201 * 4294967298) _ _ _ (lit≤ tt) c.in-Ok.ensures.shrinks c.in-Ok-read_log.ensures.shrinks

pub returns-in-Ok-clause-follows : goal.returns-in-Ok-clause-follows
returns-in-Ok-clause-follows g c =
    let header = c.in-Ok.header in
    let starts = c.in-Ok.ensures.starts run_reader run.AtHeader (λ h. run.AtSteps h []) following-start in
    let ends = c.in-Err-read_log.ensures.ends run_reader (run.AtSteps header []) (following-inside header []) (follows-none header c.new.result.items c.new.ensures.items) in
    followed-stopped _ _ header c.read_log.new.taker.steps.items c.in-Err-read_log.stop _ _ starts.0 starts.1 ends
    c.report_stop.ensures.line

pub returns-in-Ok-clause-shrinks : goal.returns-in-Ok-clause-shrinks
returns-in-Ok-clause-shrinks g c = shrinks-trans 201 (201 * 4294967297) (201 * 4294967298) _ _ _ (lit≤ tt) c.in-Ok.ensures.shrinks c.in-Err-read_log.ensures.shrinks

pub returns-clause-follows : goal.returns-clause-follows
returns-clause-follows g c =
    followed-unread _ _ c.in-Err.stop
    (c.in-Err.ensures.starts run_reader run.AtHeader (λ h. run.AtSteps h []) following-start)
    c.report_stop-in-Err.ensures.line
