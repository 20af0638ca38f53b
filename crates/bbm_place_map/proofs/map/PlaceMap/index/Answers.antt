use Rattle.bbm_place_map.proofs.Common.{arith, sym, ap, ◌∙◌, number_in, page_of}
use Rattle.bbm_place_map.proofs.Bases.{room_of}
use Rattle.bbm_place_map.proofs.map.PlaceMap.index.Goals as goal

pub returns-clause-within : goal.returns-clause-within
returns-clause-within c =
    let room = room_of c.args.self.now (page_of c.args.place) c.in_ok-number.number
    (ap (number_in c.args.self.now.pages) (sym c.page.ensures) ∙ sym c.number.ensures ∙ c.in_ok-number.was) in
    omega (arith, room, c.get-2.ensures.value, c.index.ensures.below)
