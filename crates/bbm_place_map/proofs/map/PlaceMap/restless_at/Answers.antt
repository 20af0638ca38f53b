use Rattle.bbm_place_map.proofs.Common.{ap, is_some, marks_of, Option, Entry, sym}
use Rattle.bbm_place_map.proofs.Restless.{entry_here, place_is}
use Rattle.bbm_place_map.specs.Map.{marks_at, restless_in, restless_place}
use Rattle.bbm_place_map.proofs.map.PlaceMap.restless_at.Goals as goal

pub returns-clause-place : goal.returns-clause-place
unfolding restless_in restless_place
returns-clause-place c = sym (place_is c.args.self.now c.args.i c.item.result.now c.item.ensures)

pub returns-clause-broken : goal.returns-clause-broken
unfolding marks_at restless_in
returns-clause-broken c =
    ap (λ (o : Option Entry). is_some (marks_of o)) (entry_here c.args.self.now c.law_once.ensures c.args.i c.item.result.now c.item.ensures)
