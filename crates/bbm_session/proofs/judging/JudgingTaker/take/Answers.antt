use Rattle.bbm_rules.proofs.Common.{ok_or}
use Rattle.bbm_log_grammar.specs.InLine.{read_in}
use Rattle.bbm_session.proofs.Judgements.{may-judge, judged-takes}
use Rattle.bbm_session.proofs.judging.JudgingTaker.take.Goals as goal

pub judge_item-requires : goal.judge_item-requires
judge_item-requires g c = may-judge _ _ c.args.self.now.limits c.args.header.now c.args.number (read_in c.read_line.result) c.requires (search) c.read_line.ensures.fits

pub returns-clause-takes : goal.returns-clause-takes
returns-clause-takes g c = λ reader p judges.
    let header = c.args.header.now in
    let before = c.args.self.now in
    let after = c.judge_item.new.judging in
    judged-takes (g.C.Checker.frugal before.checker) (g.C.Checker.frugal after.checker)
    (g.C.Checker.stands before.checker) (g.C.Checker.stands after.checker) before.limits after.limits header reader p
    c.args.number c.args.line.now (read_in c.read_line.result) (ok_or c.judge_item.result c.judge_item.new.stop)
    c.judge_item.ensures.frugal c.judge_item.ensures.limits judges c.read_line.ensures.item
    (λ h keeps. c.judge_item.ensures.judges header h keeps c.read_line.ensures.fits)
