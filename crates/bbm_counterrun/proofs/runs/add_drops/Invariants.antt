use Rattle.bbm_counterrun.proofs.Common.{drops}
use Rattle.bbm_rules.proofs.Common.{◌≡◌, ◌-◌, ◌++◌}
use Rattle.bbm_counterrun.proofs.runs.add_drops.Given as goal

abbrev pub invariant-loop-entry : goal.invariant-loop-entry
invariant-loop-entry l = record {
  rest : l.steps.items ++ drops l.entry (l.made - l.entry) ≡ l.fn.steps.items ++ drops 1 (l.made - 1);
}
