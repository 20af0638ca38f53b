use Rattle.bbm_certify.proofs.Common.{Adds, notes_behind}
use Rattle.bbm_rules.proofs.Common.{◌≡◌, sym, subst, ◌∙◌, on_ok_weaker, Claim, Patterns, reverse}
use Rattle.bbm_certify.proofs.DueAdds.{inside_of, spot_cleansed, spot_found, spot_none}
use Rattle.bbm_certify.proofs.places.add_spot.Goals as goal

pub returns-then-has : goal.returns-then-has
returns-then-has c = λ newest k told.
    let spot = c.args.spot.now in
    spot_cleansed c.args.header.now spot.place newest (notes_behind spot.before (reverse c.args.log.now)) spot.pe
    c.args.cleansed c.args.due.now.items (sym c.has.ensures ∙ c.if-has.true) told

pub claim_of-claim-requires-clause-inside : goal.claim_of-claim-requires-clause-inside
claim_of-claim-requires-clause-inside c =
    inside_of c.args.header.now c.args.spot.now.place c.args.spot.now.pe c.args.answer.now c.args.log.now c.in-Some.pattern
    c.in-Some.ensures

pub returns-in-Some : goal.returns-in-Some
returns-in-Some c = on_ok_weaker c.add_claim.result (λ adds newest k told.
    let spot = c.args.spot.now in
    spot_found c.args.header.now spot.place spot.before c.args.log.now newest
    (c.law_cleansed.ensures c.args.header.now Patterns) c.args.answer.now k spot.pe c.args.cleansed c.in-Some.pattern
    c.args.due.now.items c.add_claim.new.claims.items (sym c.has.ensures ∙ c.if-has.false) told c.in-Some.ensures
    (subst (λ (y : Claim). Adds (λ x. x ≡ y) c.args.due.now.items c.add_claim.new.claims.items) c.claim_of-claim.ensures adds))
    c.add_claim.ensures

pub returns-in-None : goal.returns-in-None
returns-in-None c = λ newest k told.
    let spot = c.args.spot.now in
    spot_none c.args.header.now spot.place spot.before c.args.log.now newest (c.law_cleansed.ensures c.args.header.now Patterns)
    c.args.answer.now k spot.pe c.args.due.now.items c.in-None.ensures
