use Rattle.bbm_rules.proofs.Common.{◌≡◌, ◌≤◌, take, reverse}
use Rattle.bbm_follow.specs.Following.{event_count}
use Rattle.bbm_follow.proofs.taking.count_events.Given as goal

abbrev pub invariant-loop-step : goal.invariant-loop-step
invariant-loop-step l = record {
  counted : l.count ≡ event_count (reverse (take l.step-index l.steps));
  below : l.count ≤ l.step-index;
}
