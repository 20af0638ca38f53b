use Rattle.bbm_place_map.proofs.Held.{once}
use Rattle.bbm_place_map.proofs.broken.BrokenPlaces.law_once.Goals as goal

pub returns : goal.returns
returns c = rw (← c.self.view_is) (once c.self.invariant.0)
