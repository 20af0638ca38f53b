use Rattle.bbm_counterrun.proofs.LastStep.{conflict_ends}
use Rattle.bbm_counterrun.proofs.laws.law_conflict_at_the_end.Goals as goal

pub returns : goal.returns
returns c heading trust = conflict_ends heading trust (record {
  runs = c.law_run.ensures;
  conflicts = c.law_conflict.ensures;
  kept = c.law_safe.ensures heading trust;
})
