use Rattle.bbm_rules.proofs.Common.{sym, ◌∙◌, on_ok_weaker, Patterns}
use Rattle.bbm_certify.proofs.DueAdds.{spot_none, unseen_none}
use Rattle.bbm_certify.proofs.places.add_where_seen.Goals as goal

pub returns-then-has : goal.returns-then-has
returns-then-has c = on_ok_weaker c.add_spot.result (λ adds newest k seen told. adds newest k told) c.add_spot.ensures

pub returns-else-has : goal.returns-else-has
returns-else-has c = λ newest k seen told.
    let s = c.args.spot.now in
    let heading = c.args.header.now in
    spot_none heading s.place s.before c.args.log.now newest (c.law_cleansed.ensures heading Patterns) c.args.answer.now k
    s.pe c.args.due.now.items
    (unseen_none heading s.place s.pe s.before c.args.log.now c.args.answer.now (c.law_seen.ensures heading)
    (sym seen ∙ (sym c.has.ensures ∙ c.if-has.false)))
