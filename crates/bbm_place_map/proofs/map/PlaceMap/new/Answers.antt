use Rattle.bbm_place_map.proofs.Common.{ap, bases, index_of, marks_of, pends_of}
use Rattle.bbm_place_map.proofs.Seated.{empty_place}
use Rattle.bbm_place_map.proofs.Idle.{idle_from}
use Rattle.bbm_place_map.specs.Map.{marks_at, pends_at}
use Rattle.bbm_place_map.proofs.map.PlaceMap.new.Goals as goal

pub returns-clause-marks : goal.returns-clause-marks
unfolding marks_at
returns-clause-marks c = λ a. ap marks_of (empty_place c.new-3.result c.new-3.ensures.entries (index_of (bases c.new.result) a))

pub returns-clause-pends : goal.returns-clause-pends
unfolding pends_at
returns-clause-pends c = λ q a. idle_from _ (ap (pends_of q) (empty_place c.new-3.result c.new-3.ensures.entries (index_of (bases c.new.result) a)))
