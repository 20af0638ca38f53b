use Rattle.bbm_rules.proofs.Common.{◌≡◌, ◌++◌, take}
use Rattle.std.specs.List.{flat_map}
use Rattle.bbm_oracle_tags.specs.Moments.{readings_under}
use Rattle.bbm_oracle_tags.proofs.moment.add_each.Given as goal

abbrev pub invariant-loop-from : goal.invariant-loop-from
invariant-loop-from l =
    l.readings.items ≡ l.initial.readings.items
    ++ flat_map (readings_under l.roots l.first) (take l.from-index l.second)
