use Rattle.bbm_rules.proofs.Common.{◌≡◌, take, reverse, register_values}
use Rattle.bbm_oracle_tags.proofs.registers.register_values.Given as goal

abbrev pub invariant-loop-event : goal.invariant-loop-event
invariant-loop-event l = l.values.items ≡ register_values (reverse (take l.event-index l.events)) l.pe l.reg
