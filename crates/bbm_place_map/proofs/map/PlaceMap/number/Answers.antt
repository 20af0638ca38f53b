use Rattle.bbm_place_map.specs.Map.{pages_of}
use Rattle.bbm_place_map.proofs.map.PlaceMap.number.Goals as goal

pub returns : goal.returns
unfolding pages_of
returns c = c.number.ensures
