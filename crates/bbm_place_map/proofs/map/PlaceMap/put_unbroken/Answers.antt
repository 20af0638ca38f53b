use Rattle.bbm_place_map.proofs.Common.{refl, arith}
use Rattle.bbm_place_map.proofs.Clearing.{fits_seated, place_cleared, value_put}
use Rattle.bbm_place_map.specs.Map.{IsPosition}
use Rattle.bbm_place_map.proofs.map.PlaceMap.put_unbroken.Goals as goal

pub clear-requires : goal.clear-requires
unfolding IsPosition
clear-requires c =
    let self = c.args.self.now in
    omega (arith, c.value_number-j.ensures.within, self.counted, self.paged)

pub invariant_of-self : goal.invariant_of-self
invariant_of-self c =
    fits_seated c.args.self.now c.put_value.new.values c.clear.new.self c.put_value.ensures.len c.clear.ensures.pages c.clear.ensures.seats

pub returns-clause-put : goal.returns-clause-put
returns-clause-put c = value_put c.args.self.now _ refl c.value_number-j.ensures.index c.put_value.ensures.values

pub returns-clause-left : goal.returns-clause-left
returns-clause-left c = place_cleared c.args.self.now _ refl c.value_number-j.ensures.index c.clear.ensures
