use Rattle.bbm_rules.proofs.Common.{◌≡◌, take, reverse, among, written_places}
use Rattle.bbm_judge.proofs.restless.is_written.Given as goal

abbrev pub invariant-loop-event : goal.invariant-loop-event
invariant-loop-event l = l.found ≡ among l.place (written_places (reverse (take l.event-index l.events)))
