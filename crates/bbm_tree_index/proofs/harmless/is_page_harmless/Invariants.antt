use Rattle.bbm_tree_index.proofs.Common.{asks, Leaf, value_at}
use Rattle.bbm_rules.proofs.Common.{◌≡◌, ℕ, ◌<◌, ◌+◌, ◌*◌, false, desc_of}
use Rattle.bbm_tree_index.proofs.harmless.is_page_harmless.Given as goal

abbrev pub invariant-loop-part : goal.invariant-loop-part
invariant-loop-part l = (leaf : Leaf) (j : ℕ) → j < 8 * l.part
    → asks leaf l.fn.kind (desc_of l.fn.kind l.fn.level (value_at l.map (l.fn.page + 8 * j))) ≡ false
