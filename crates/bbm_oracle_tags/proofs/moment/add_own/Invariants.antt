use Rattle.bbm_rules.proofs.Common.{◌≡◌, ◌++◌, take}
use Rattle.std.specs.List.{filter_map}
use Rattle.bbm_oracle_tags.specs.Moments.{own_reading}
use Rattle.bbm_oracle_tags.proofs.moment.add_own.Given as goal

abbrev pub invariant-loop-value : goal.invariant-loop-value
invariant-loop-value l =
    l.readings.items ≡ l.initial.readings.items ++ filter_map (own_reading l.roots l.kind) (take l.value-index l.values)
