use Rattle.bbm_tree_index.proofs.Common.{spares, value_at}
use Rattle.bbm_rules.proofs.Common.{◌≡◌, ℕ, ◌<◌, ◌≤◌, ◌+◌, ◌*◌, true}
use Rattle.bbm_tree_index.proofs.harmless.are_each_harmless.Given as goal

abbrev pub invariant-loop-index : goal.invariant-loop-index
invariant-loop-index l = (j : ℕ) → l.fn.from ≤ j → j < l.index
    → spares l.lower l.bits (value_at l.map (l.position.place + 8 * j)) ≡ true
