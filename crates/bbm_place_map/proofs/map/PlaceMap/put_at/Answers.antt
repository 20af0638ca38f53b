use Rattle.bbm_place_map.proofs.Common.{refl}
use Rattle.bbm_place_map.proofs.Clearing.{fits_seated, value_put}
use Rattle.bbm_place_map.proofs.Positions.{seats_same}
use Rattle.bbm_place_map.proofs.map.PlaceMap.put_at.Goals as goal

pub invariant_of-self : goal.invariant_of-self
invariant_of-self c =
    let self = c.args.self.now in
    fits_seated self c.put_value.new.values self.broken c.put_value.ensures.len refl (seats_same self.broken.entries)

pub returns-clause-put : goal.returns-clause-put
returns-clause-put c = value_put c.args.self.now _ refl c.value_number-j.ensures.index c.put_value.ensures.values
