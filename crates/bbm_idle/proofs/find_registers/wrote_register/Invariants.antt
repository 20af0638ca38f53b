use Rattle.bbm_idle.proofs.Common.{wrote_register}
use Rattle.bbm_rules.proofs.Common.{◌≡◌, take, reverse}
use Rattle.bbm_idle.proofs.find_registers.wrote_register.Given as goal

abbrev pub invariant-loop-event : goal.invariant-loop-event
invariant-loop-event l = l.wrote ≡ wrote_register l.pe (reverse (take l.event-index l.events))
