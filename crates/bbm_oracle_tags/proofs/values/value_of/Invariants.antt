use Rattle.bbm_rules.proofs.Common.{◌≡◌, take, reverse, value_of}
use Rattle.bbm_oracle_tags.proofs.values.value_of.Given as goal

abbrev pub invariant-loop-event : goal.invariant-loop-event
invariant-loop-event l = l.value ≡ value_of (reverse (take l.event-index l.events)) l.place
