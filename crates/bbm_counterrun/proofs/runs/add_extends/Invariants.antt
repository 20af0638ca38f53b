use Rattle.bbm_counterrun.proofs.Common.{extends}
use Rattle.bbm_rules.proofs.Common.{◌≡◌, ◌+◌, ◌++◌, drop}
use Rattle.bbm_counterrun.proofs.runs.add_extends.Given as goal

abbrev pub invariant-loop-read : goal.invariant-loop-read
invariant-loop-read l = record {
  count : l.entry ≡ l.read-index + 1;
  rest : l.steps.items ++ extends l.entry (drop l.read-index l.reads) ≡ l.fn.steps.items ++ extends 1 l.reads;
}
