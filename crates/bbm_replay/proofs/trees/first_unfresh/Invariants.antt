use Rattle.bbm_replay.proofs.Common.{fresh_in}
use Rattle.bbm_rules.proofs.Common.{◌≡◌, ℕ, ◌+◌, ◌*◌, ◌<◌, true}
use Rattle.bbm_replay.proofs.trees.first_unfresh.Given as goal

abbrev pub invariant-loop-i : goal.invariant-loop-i
invariant-loop-i l = (k : ℕ) → k < l.i → fresh_in l.index (l.page + 4096 * k) ≡ true
