use Rattle.bbm_counterrun.proofs.Common.{StandsFor, Patterns}
use Rattle.bbm_rules.proofs.Common.{◌≡◌, take, reverse}
use Rattle.bbm_counterrun.proofs.leaf.history_of.Given as goal

abbrev pub invariant-loop-event : goal.invariant-loop-event
invariant-loop-event l = record {
  heading : l.history.heading ≡ l.header;
  trust : l.history.trust ≡ Patterns;
  stands : StandsFor l.history l.header (reverse (take l.event-index l.events));
}
