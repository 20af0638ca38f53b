use Rattle.bbm_rules.proofs.Common.{◌≡◌, drop, reverse}
use Rattle.bbm_counterrun.specs.Tested as spec
use Rattle.bbm_counterrun.proofs.walk.extend_by.Given as goal

abbrev pub invariant-loop-read : goal.invariant-loop-read
invariant-loop-read l = record {
  may : spec.may_extend_by l.header (reverse l.events) l.last (drop l.read-index l.reads)
      ≡ spec.may_extend_by l.header (reverse l.events) l.fn.entry l.reads;
  same : spec.extended_by l.last (drop l.read-index l.reads) ≡ spec.extended_by l.fn.entry l.reads;
}
