use Rattle.bbm_rules.proofs.Common.{take, reverse}
use Rattle.bbm_oracle_tags.specs.Moments.{IsMoment}
use Rattle.bbm_oracle_tags.proofs.readings.readings_at.Given as goal

abbrev pub invariant-loop-event : goal.invariant-loop-event
invariant-loop-event l = IsMoment l.header.world l.pe (reverse (take l.event-index l.events)) l.moment
