use Rattle.bbm_session.proofs.Common.{Judges}
use Rattle.bbm_rules.proofs.Common.{[], refl, AtEvents}
use Rattle.bbm_session.specs.Readers.{log_reader}
use Rattle.bbm_session.proofs.Judgements.{judging-inside, judged-ends}
use Rattle.bbm_session.proofs.judgement.judge_lines.Goals as goal

pub read_log-read-requires-clause-begun : goal.read_log-read-requires-clause-begun
read_log-read-requires-clause-begun g c =
    let header = c.args.header.now in
    let frugal = g.C.Checker.frugal c.args.judging.now.checker in
    let limits = c.args.judging.now.limits in (
      log_reader frugal limits,
      AtEvents header [],
      judging-inside frugal limits header [],
      record { h = []; reader_is = refl; is = refl; keeps = record { known = c.requires.fresh; fit = refl; rules = refl }; number = refl },
    )

pub returns-clause-known : goal.returns-clause-known
returns-clause-known g c =
    let header = c.args.header.now in
    let frugal = g.C.Checker.frugal c.args.judging.now.checker in
    let limits = c.args.judging.now.limits in
    let begun : Judges frugal (g.C.Checker.stands c.args.judging.now.checker) limits (log_reader frugal limits) header (AtEvents header []) 2 =
    record { h = []; reader_is = refl; is = refl; keeps = record { known = c.requires.fresh; fit = refl; rules = refl }; number = refl } in
    judged-ends c.law_item_fits.ensures (g.C.Checker.stands c.read_log-read.new.taker.checker) frugal (g.C.Checker.frugal c.read_log-read.new.taker.checker) limits c.read_log-read.new.taker.limits header (AtEvents header []) c.read_log-read.result c.judge_end.result _ _ _ _
    (c.read_log-read.ensures.ends (log_reader frugal limits) (AtEvents header []) (judging-inside frugal limits header []) begun)
    (λ h stands. c.judge_end.ensures.accepted header h stands) c.judge_end.ensures.stopped
