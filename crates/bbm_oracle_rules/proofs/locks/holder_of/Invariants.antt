use Rattle.bbm_rules.proofs.Common.{◌≡◌, take, reverse, holder_of}
use Rattle.bbm_oracle_rules.proofs.locks.holder_of.Given as goal

abbrev pub invariant-loop-event : goal.invariant-loop-event
invariant-loop-event l = l.holder ≡ holder_of (reverse (take l.event-index l.events)) l.lock
