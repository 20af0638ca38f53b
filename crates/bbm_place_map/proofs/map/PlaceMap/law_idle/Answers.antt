use Rattle.bbm_place_map.proofs.Common.{place_entry}
use Rattle.bbm_place_map.proofs.Idle.{idle_from}
use Rattle.bbm_place_map.proofs.Restless.{none_waits}
use Rattle.bbm_place_map.specs.Map.{marks_at, pends_at}
use Rattle.bbm_place_map.proofs.map.PlaceMap.law_idle.Goals as goal

pub returns : goal.returns
unfolding marks_at pends_at
returns c = λ q a none. idle_from (pends_at c.args.self.now q a) (none_waits q (place_entry c.args.self.now a) none)
