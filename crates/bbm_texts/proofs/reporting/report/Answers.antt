use Rattle.bbm_texts.proofs.Common.{Status, Wrote}
use Rattle.bbm_rules.proofs.Common.{subst}
use Rattle.bbm_texts.proofs.Refusals.{names-it}
use Rattle.bbm_texts.proofs.reporting.report.Goals as goal

pub tell_all-requires-clause-known : goal.tell_all-requires-clause-known
tell_all-requires-clause-known g c =
    let known = c.requires.known in
    let d = c.args.decision.now in
    (known.0, names-it (g.C.Checker.stands c.args.checker.now) c.args.header.now known.0 d.verdict d.refused known.1.0 known.1.1)

pub returns : goal.returns
returns g c = λ h knows.
    let d = c.args.decision.now in
    let told = c.tell_all.ensures.puts h d.refused (names-it (g.C.Checker.stands c.args.checker.now) c.args.header.now h d.verdict d.refused knows.0 knows.1) in (
      told.0,
      told.1,
      subst (λ (s : Status). Wrote s told.0 c.settled.result (g.K.Sink.held c.args.out.now) (g.K.Sink.held c.tell_all.new.out) (g.K.Sink.faults c.args.out.now) (g.K.Sink.faults c.tell_all.new.out)) c.status.ensures (c.settled.ensures told.0 _ _ _ _ told.2),
    )
