use Rattle.bbm_rules.proofs.Common.{◌≤◌, length}
use Rattle.bbm_oracle_patterns.proofs.Lasts.{Silent}
use Rattle.bbm_oracle_patterns.proofs.search.last_valid.Given as goal

abbrev pub invariant-loop-index : goal.invariant-loop-index
invariant-loop-index l = record {
  within : l.index ≤ length l.log;
  silent : Silent l.kind l.level l.place l.log l.index;
}

abbrev pub decreases-loop-index : goal.decreases-loop-index
decreases-loop-index l = l.index
