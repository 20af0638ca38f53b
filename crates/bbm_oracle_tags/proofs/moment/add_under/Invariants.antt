use Rattle.bbm_rules.proofs.Common.{◌≡◌, ◌++◌, take}
use Rattle.bbm_oracle_tags.specs.Moments.{readings_under}
use Rattle.bbm_oracle_tags.proofs.moment.add_under.Given as goal

abbrev pub invariant-loop-value : goal.invariant-loop-value
invariant-loop-value l =
    l.readings.items ≡ l.initial.readings.items ++ readings_under l.roots (take l.value-index l.values) l.from
