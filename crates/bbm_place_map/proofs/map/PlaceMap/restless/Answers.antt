use Rattle.bbm_place_map.proofs.Common.{place_entry}
use Rattle.bbm_place_map.proofs.Idle.{idle_from}
use Rattle.bbm_place_map.proofs.Restless.{none_waits, place_aligned, place_broken, place_each, place_once}
use Rattle.bbm_place_map.specs.Map.{marks_at, pends_at, restless_in, restless_place}
use Rattle.bbm_place_map.proofs.map.PlaceMap.restless.Goals as goal

pub returns-clause-broken : goal.returns-clause-broken
unfolding marks_at restless_in restless_place
returns-clause-broken c = place_broken c.args.self.now c.law_once.ensures

pub returns-clause-each : goal.returns-clause-each
unfolding marks_at restless_in restless_place
returns-clause-each c = place_each c.args.self.now

pub returns-clause-once : goal.returns-clause-once
unfolding marks_at restless_in restless_place
returns-clause-once c = place_once c.args.self.now c.law_once.ensures

pub returns-clause-idle : goal.returns-clause-idle
unfolding marks_at pends_at
returns-clause-idle c = λ q a none. idle_from (pends_at c.args.self.now q a) (none_waits q (place_entry c.args.self.now a) none)

pub returns-clause-aligned : goal.returns-clause-aligned
unfolding marks_at
returns-clause-aligned c = place_aligned c.args.self.now
