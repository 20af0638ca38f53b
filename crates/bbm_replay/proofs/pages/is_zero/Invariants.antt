use Rattle.bbm_replay.proofs.Common.{value_at}
use Rattle.bbm_rules.proofs.Common.{◌≡◌, ℕ, ◌+◌, ◌*◌, ◌<◌}
use Rattle.bbm_replay.proofs.pages.is_zero.Given as goal

abbrev pub invariant-loop-index : goal.invariant-loop-index
invariant-loop-index l = (k : ℕ) → k < l.index → value_at l.map (l.fn.page + 8 * k) ≡ 0
