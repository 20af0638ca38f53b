use Rattle.bbm_place_map.proofs.Common.{◌∙◌, ℕ, Some, ap, arith, page_of}
use Rattle.bbm_place_map.proofs.Bases.{index_of_number, room_of}
use Rattle.bbm_place_map.specs.Map.{IsPosition, pages_of}
use Rattle.bbm_place_map.proofs.map.PlaceMap.value_number.Goals as goal

pub returns-clause-index : goal.returns-clause-index
unfolding IsPosition pages_of
returns-clause-index c =
    index_of_number c.args.self.now.pages c.args.position.now.place c.args.position.now.page c.get.ensures.aligned c.requires
    ∙ ap (λ (k : ℕ). Some k) (omega (arith, c.get-2.ensures.value, c.index.ensures.value))

pub returns-clause-within : goal.returns-clause-within
unfolding IsPosition pages_of
returns-clause-within c =
    let room = room_of c.args.self.now (page_of c.args.position.now.place) c.args.position.now.page c.requires in
    omega (arith, room, c.get-2.ensures.value, c.index.ensures.below)
