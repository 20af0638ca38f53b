use Rattle.bbm_tree_index.proofs.Common.{holds_at}
use Rattle.bbm_rules.proofs.Common.{◌≡◌, ℕ, ◌<◌, ◌+◌, ◌*◌, false}
use Rattle.bbm_tree_index.proofs.held.holds_none.Given as goal

abbrev pub invariant-loop-index : goal.invariant-loop-index
invariant-loop-index l = (j : ℕ) → j < l.index → holds_at l.map l.kind l.level (l.fn.page + 8 * j) ≡ false
