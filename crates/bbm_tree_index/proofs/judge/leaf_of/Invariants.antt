use Rattle.bbm_tree_index.proofs.Common.{asks, value_at}
use Rattle.bbm_rules.proofs.Common.{◌≡◌, ℕ, ◌<◌, ◌+◌, ◌*◌, false, desc_of}
use Rattle.bbm_tree_index.proofs.judge.leaf_of.Given as goal

abbrev pub invariant-loop-index : goal.invariant-loop-index
invariant-loop-index l = (j : ℕ) → j < l.index
    → asks l.leaf l.kind (desc_of l.kind l.level (value_at l.map (l.page + 8 * j))) ≡ false
