use Rattle.bbm_texts.proofs.Common.{heading, log_of}
use Rattle.bbm_rules.proofs.Common.{◌≤◌, ◌-◌}
use Rattle.bbm_texts.proofs.selftesting.take_log.Given as goal

abbrev pub invariant-events : goal.invariant-events
invariant-events g l = record {
  within : l.i ≤ l.count;
  stands : g.C.Checker.stands l.checker heading (log_of l.n l.i);
}

abbrev pub decreases-events : goal.decreases-events
decreases-events g l = l.count - l.i
