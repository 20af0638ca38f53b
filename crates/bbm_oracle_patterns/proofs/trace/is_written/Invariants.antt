use Rattle.bbm_rules.proofs.Common.{◌≡◌, drop}
use Rattle.bbm_oracle_patterns.specs.Walk.{some_writes}
use Rattle.bbm_oracle_patterns.proofs.trace.is_written.Given as goal

abbrev pub invariant-loop-kept : goal.invariant-loop-kept
invariant-loop-kept l = some_writes l.place (drop l.kept-index l.later) ≡ some_writes l.place l.later
