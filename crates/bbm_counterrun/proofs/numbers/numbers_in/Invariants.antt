use Rattle.bbm_rules.proofs.Common.{◌≡◌, map, take, tag_number}
use Rattle.bbm_counterrun.proofs.numbers.numbers_in.Given as goal

abbrev pub invariant-loop-value : goal.invariant-loop-value
invariant-loop-value l = record {
  so_far : l.numbers.items ≡ map tag_number (take l.value-index l.values);
}
