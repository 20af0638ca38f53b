use Rattle.bbm_tree_index.proofs.Common.{get, root_marks}
use Rattle.bbm_rules.proofs.Common.{◌≡◌, ℕ, nat_eq}
use Rattle.bbm_tree_index.proofs.start.start_root.Given as goal

abbrev pub invariant-loop-part : goal.invariant-loop-part
invariant-loop-part l = (q : ℕ) → get nat_eq l.table q ≡ root_marks l.kind l.first l.part q
