use Rattle.bbm_texts.proofs.Common.{refused_write}
use Rattle.bbm_rules.proofs.Common.{◌≡◌, Some}
use Rattle.bbm_texts.proofs.ConflictRuns.{ends-refused, knows-refused, reports-run}
use Rattle.bbm_texts.proofs.counterrun.report_counterrun.Goals as goal

pub report_refused-requires-clause-ends : goal.report_refused-requires-clause-ends
report_refused-requires-clause-ends g c =
    let stands = g.C.Checker.stands c.args.checker.now in
    let header = c.args.header.now in
    let h = c.requires.0 in
    let d = c.args.decision.now in
    let is : refused_write d.refused d.verdict ≡ Some c.in-Some.event = cc in
    let knows = knows-refused stands header h c.in-Some.event d.verdict d.refused is c.requires.1.0 c.requires.1.1 in
    (h, c.in-Some.event, ends-refused stands header h c.in-Some.event c.log.result.now c.in-Ok.log.items knows (c.log.ensures header h knows.0.known) c.in-Ok.ensures.items)

pub returns-in-Ok : goal.returns-in-Ok
returns-in-Ok g c = λ h knows.
    let stands = g.C.Checker.stands c.args.checker.now in
    let header = c.args.header.now in
    let d = c.args.decision.now in
    let is : refused_write d.refused d.verdict ≡ Some c.in-Some.event = cc in
    let refused = knows-refused stands header h c.in-Some.event d.verdict d.refused is knows.0 knows.1 in
    let ends = ends-refused stands header h c.in-Some.event c.log.result.now c.in-Ok.log.items refused (c.log.ensures header h refused.0.known) c.in-Ok.ensures.items in
    reports-run header h d c.in-Some.event c.report_refused.result _ _ _ _ is (c.report_refused.ensures h c.in-Some.event ends)
