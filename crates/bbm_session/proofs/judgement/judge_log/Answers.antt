use Rattle.bbm_rules.proofs.Common.{[], ◌*◌, ap, lit≤, AtHeader, AtEvents}
use Rattle.std.proofs.Common.{is_ok}
use Rattle.bbm_session.specs.Readers.{log_reader}
use Rattle.bbm_session.proofs.Judgements.{judging-start}
use Rattle.bbm_session.proofs.Stages.{shrinks-trans, continues-stops, header-passes, header-heads, header-want}
use Rattle.bbm_session.proofs.judgement.judge_log.Goals as goal

pub returns-in-Ok-fresh-clause-judged : goal.returns-in-Ok-fresh-clause-judged
returns-in-Ok-fresh-clause-judged g c =
    let limits = c.args.limits in
    let frugal = g.C.Checker.frugal c.in-Ok-fresh.checker in
    let reader = log_reader frugal limits in
    let header = c.in-Ok.header in
    let stop = c.judge_lines-stop.result in
    let known = c.judge_lines-stop.ensures.known in
    let start = judging-start frugal limits in
    let starts = c.in-Ok.ensures.starts reader AtHeader (λ heading. AtEvents heading []) start in
    let passes = header-passes reader AtHeader (λ heading. AtEvents heading []) start header _ _ starts.0 in
    let stops = continues-stops reader 1 2 AtHeader (AtEvents header []) known.reached stop _ _ _ _ _ _ passes starts.1 known.stops in
    let heads = header-heads header _ _ starts.0 in (
      c.in-Ok-fresh.checker,
      record {
        reached = known.reached;
        heads = heads;
        stops = stops;
        known = known.known;
      },
    )

pub returns-in-Ok-fresh-clause-shrinks : goal.returns-in-Ok-fresh-clause-shrinks
returns-in-Ok-fresh-clause-shrinks g c = shrinks-trans 201 (201 * 4294967297) (201 * 4294967298) _ _ _ (lit≤ tt) c.in-Ok.ensures.shrinks c.judge_lines-stop.ensures.shrinks

pub returns-in-Err-fresh-clause-judged : goal.returns-in-Err-fresh-clause-judged
returns-in-Err-fresh-clause-judged g c = λ frugal.
    let limits = c.args.limits in
    let reader = log_reader frugal limits in
    let header = c.in-Ok.header in
    let starts = c.in-Ok.ensures.starts reader AtHeader (λ heading. AtEvents heading []) (judging-start frugal limits) in
    record { stops = (header-want reader AtHeader header _ _ starts.0 (ap is_ok starts.0.header), starts.1); brief = tt }

pub returns-in-Err-clause-judged : goal.returns-in-Err-clause-judged
returns-in-Err-clause-judged g c = λ frugal.
    let limits = c.args.limits in
    record {
      stops = c.in-Err.ensures.starts (log_reader frugal limits) AtHeader (λ heading. AtEvents heading []) (judging-start frugal limits);
      brief = c.in-Err.ensures.brief;
    }
