use Rattle.bbm_claims.proofs.Common.{flush_mark, seen_mark}
use Rattle.bbm_rules.proofs.Common.{refl, sym, ◌∙◌, Half}
use Rattle.bbm_claims.proofs.Kepts.{mark_got, mark_lost}
use Rattle.bbm_claims.proofs.marks.half_by.Goals as goal

pub returns-in-Some : goal.returns-in-Some
returns-in-Some c =
    c.seen_since.ensures
    ∙ sym (mark_got (λ n before. flush_mark c.args.header.now c.args.step.now.place c.args.step.now.pe Half
    c.args.step.now.t
    (seen_mark c.args.header.now c.args.step.now.place c.args.step.now.pe c.args.step.now.b) n.event before)
    c.args.log.now c.args.step.now.d
    c.in-Some.i c.index-log-i.result c.in-Some.ensures.found)

pub returns-in-None : goal.returns-in-None
returns-in-None c =
    sym (mark_lost (λ n before. flush_mark c.args.header.now c.args.step.now.place c.args.step.now.pe Half
    c.args.step.now.t
    (seen_mark c.args.header.now c.args.step.now.place c.args.step.now.pe c.args.step.now.b) n.event before)
    c.args.log.now c.args.step.now.d
    (c.in-None.ensures.none refl))
