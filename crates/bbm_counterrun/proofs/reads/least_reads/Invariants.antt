use Rattle.bbm_rules.proofs.Common.{◌≡◌, drop, reverse}
use Rattle.bbm_counterrun.specs.Ways as spec
use Rattle.bbm_counterrun.proofs.ReadCode.{and_then}
use Rattle.bbm_counterrun.proofs.reads.least_reads.Given as goal

abbrev pub invariant-loop-goal : goal.invariant-loop-goal
invariant-loop-goal l = record {
  rest : and_then l.reads.items (spec.least_reads l.header (reverse l.events) l.pe (drop l.goal-index l.way))
      ≡ spec.least_reads l.header (reverse l.events) l.pe l.way;
}
