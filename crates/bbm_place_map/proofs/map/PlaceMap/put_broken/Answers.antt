use Rattle.bbm_place_map.proofs.Common.{refl, arith}
use Rattle.bbm_place_map.proofs.Clearing.{fits_put, place_marked, value_put}
use Rattle.bbm_place_map.specs.Map.{IsPosition}
use Rattle.bbm_place_map.proofs.map.PlaceMap.put_broken.Goals as goal

pub mark-requires : goal.mark-requires
unfolding IsPosition
mark-requires c =
    let self = c.args.self.now in
    omega (arith, c.value_number-j.ensures.within, self.counted, self.paged)

pub invariant_of-self : goal.invariant_of-self
unfolding IsPosition
invariant_of-self c =
    fits_put c.args.self.now c.put_value.new.values c.put_value.ensures.len c.value_number-j.ensures.index c.mark.ensures

pub returns-clause-put : goal.returns-clause-put
returns-clause-put c = value_put c.args.self.now _ refl c.value_number-j.ensures.index c.put_value.ensures.values

pub returns-clause-left : goal.returns-clause-left
returns-clause-left c = place_marked c.args.self.now _ refl c.value_number-j.ensures.index c.mark.ensures
