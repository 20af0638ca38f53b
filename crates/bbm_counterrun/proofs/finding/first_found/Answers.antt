use Rattle.bbm_counterrun.proofs.FoundSteps.{starts_more}
use Rattle.bbm_counterrun.proofs.finding.first_found.Goals as goal

pub loop-before-preserved : goal.loop-before-preserved
loop-before-preserved c = record {
  none = starts_more _ c.loop-before.before c.loop-before.invariant.none (rw c.in-None.is at c.in_ok-found.ensures);
}
