use Rattle.bbm_counterrun.proofs.Common.{NoneAt}
use Rattle.bbm_rules.proofs.Common.{ℕ, ◌<◌, reverse, Write}
use Rattle.bbm_counterrun.proofs.finding.try_start.Given as goal

abbrev pub invariant-loop-number : goal.invariant-loop-number
invariant-loop-number l = record {
  none : (p : ℕ) → p < l.number → NoneAt l.search.header.now (reverse l.search.events.now) (Write 0 l.search.place l.search.value)
      l.search.kind l.search.way.now l.starts p;
}
