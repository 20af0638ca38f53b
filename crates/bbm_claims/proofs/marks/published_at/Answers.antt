use Rattle.bbm_claims.proofs.Common.{publication_mark}
use Rattle.bbm_rules.proofs.Common.{refl, sym, ◌∙◌}
use Rattle.bbm_claims.proofs.Kepts.{mark_got, mark_lost}
use Rattle.bbm_claims.proofs.marks.published_at.Goals as goal

pub returns-in-Some : goal.returns-in-Some
returns-in-Some c =
    c.published.ensures
    ∙ sym (mark_got (λ n before. publication_mark c.args.header.now c.args.place c.args.pe n.event before)
    c.args.log.now c.args.b
    c.in-Some.i c.index-log-i.result c.in-Some.ensures.found)

pub returns-in-None : goal.returns-in-None
returns-in-None c =
    sym (mark_lost (λ n before. publication_mark c.args.header.now c.args.place c.args.pe n.event before) c.args.log.now
    c.args.b
    (c.in-None.ensures.none refl))
