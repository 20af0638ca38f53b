use Rattle.bbm_place_map.proofs.Common.{ap, sym, ◌∙◌, ◌*◌, ◌≡◌, Some, arith, eqb-true, number_in, option_map, page_of}
use Rattle.bbm_place_map.proofs.Keeping.{number_of_place}
use Rattle.bbm_place_map.proofs.issue.entry_of.Goals as goal

pub returns-then-eq : goal.returns-then-eq
returns-then-eq c =
    sym (number_of_place c.requires c.args.place c.args.hint c.item.result.now c.item.ensures
    (eqb-true c.item.result.now.place c.args.place (sym c.eq.ensures ∙ c.if-eq.true)))

pub number-requires-2 : goal.number-requires-2
number-requires-2 c =
    let pages = c.args.pages.now in
    let is : number_in pages (page_of c.args.place) ≡ Some c.in_ok-number.field-0 =
    ap (number_in pages) (sym c.page.ensures) ∙ sym c.number.ensures ∙ c.in_ok-number.was in
    let room = c.requires.numbered.within (page_of c.args.place) (512 * c.in_ok-number.field-0) (ap (option_map (λ n. 512 * n)) is) in
    omega (arith, room, c.get-2.ensures.value, c.index.ensures.below)
