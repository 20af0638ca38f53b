use Rattle.bbm_replay.proofs.Common.{restless_place, Position, IsPathOf, IsSettled}
use Rattle.bbm_rules.proofs.Common.{◌≡◌, sym, ◌∙◌, subst}
use Rattle.bbm_replay.proofs.Findings.{if_some}
use Rattle.bbm_replay.proofs.tlbi_cover.Covering.add_met.Goals as goal

pub add_broken-requires-clause-within : goal.add_broken-requires-clause-within
add_broken-requires-clause-within c = (c.restless_number.ensures.some c.in-Some.number c.in-Some.is).0

pub add_broken-requires-clause-path : goal.add_broken-requires-clause-path
add_broken-requires-clause-path c =
    let own = if_some (λ (p : Position). p.place ≡ c.args.place) c.position.result c.unwrap-position.result
    c.unwrap-position.ensures c.position.ensures.place in
    let here : restless_place c.args.map.now c.in-Some.number ≡ c.args.place
    = (c.restless_number.ensures.some c.in-Some.number c.in-Some.is).1 ∙ own in
    subst (λ a. IsPathOf c.args.self.now.index.now a c.args.path.now) (sym here) c.requires.path

pub returns-in_ok-core-in-Some-clause-settled : goal.returns-in_ok-core-in-Some-clause-settled
returns-in_ok-core-in-Some-clause-settled c =
    let own = if_some (λ (p : Position). p.place ≡ c.args.place) c.position.result c.unwrap-position.result
    c.unwrap-position.ensures c.position.ensures.place in
    let here : restless_place c.args.map.now c.in-Some.number ≡ c.args.place
    = (c.restless_number.ensures.some c.in-Some.number c.in-Some.is).1 ∙ own in
    subst (IsSettled c.args.map.now c.args.self.now c.add_broken.new.found.items) here
    c.in_ok-core-in-Some.ensures.settled
