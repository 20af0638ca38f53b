use Rattle.bbm_counterrun.proofs.Common.{combined, blocks}
use Rattle.bbm_rules.proofs.Common.{◌≡◌, ℕ, ◌<◌, ◌≤◌, true, length}
use Rattle.bbm_counterrun.proofs.combining.pass.Given as goal

abbrev pub invariant-loop-n : goal.invariant-loop-n
invariant-loop-n l = record {
  joined : l.joined ≡ combined l.joined.joined l.entry;
  first : (m : ℕ) → l.from ≤ m → m < l.n → blocks l.search.header.now (length l.search.events.now) l.entry m l.answer ≡ true;
}
