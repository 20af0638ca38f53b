use Rattle.bbm_counterrun.proofs.Common.{NoneAt}
use Rattle.bbm_rules.proofs.Common.{ℕ, ◌<◌, ◌≤◌, reverse, Write}
use Rattle.bbm_counterrun.proofs.finding.first_found.Given as goal

abbrev pub invariant-loop-before : goal.invariant-loop-before
invariant-loop-before l = record {
  none : (k : ℕ) → 0 < k → k ≤ l.before → (p : ℕ) → p < l.search.header.now.pes
      → NoneAt l.search.header.now (reverse l.search.events.now) (Write 0 l.search.place l.search.value) l.search.kind l.search.way.now k p;
}
