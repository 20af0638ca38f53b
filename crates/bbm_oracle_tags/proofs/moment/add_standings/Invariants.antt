use Rattle.bbm_rules.proofs.Common.{◌≡◌, ◌++◌, take}
use Rattle.std.specs.List.{filter_map}
use Rattle.bbm_oracle_tags.specs.Moments.{standing_reading}
use Rattle.bbm_oracle_tags.proofs.moment.add_standings.Given as goal

abbrev pub invariant-loop-standing : goal.invariant-loop-standing
invariant-loop-standing l =
    l.readings.items
    ≡ l.initial.readings.items ++ filter_map (standing_reading l.roots) (take l.standing-index l.standings)
