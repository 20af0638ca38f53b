use Rattle.bbm_rules.proofs.Common.{◌≡◌, take}
use Rattle.bbm_counterrun.specs.RunNumbers as spec
use Rattle.bbm_counterrun.proofs.numbers.numbers_of.Given as goal

abbrev pub invariant-loop-reading : goal.invariant-loop-reading
invariant-loop-reading l = record {
  so_far : l.numbers.items ≡ spec.numbers_of (take l.reading-index l.readings);
}
