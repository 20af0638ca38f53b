use Rattle.bbm_place_map.proofs.Common.{arith, sym, ◌∙◌}
use Rattle.bbm_place_map.proofs.Bases.{room_of}
use Rattle.bbm_place_map.proofs.map.PlaceMap.base.Goals as goal

pub returns-clause-within : goal.returns-clause-within
returns-clause-within c =
    let room = room_of c.args.self.now c.args.page c.in_ok-number.field-0 (sym c.number.ensures ∙ c.in_ok-number.was) in
    omega (arith, room, c.get.ensures.value)
