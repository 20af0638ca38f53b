use Rattle.bbm_tree_index.proofs.Common.{get, Hung, SameKeys}
use Rattle.bbm_rules.proofs.Common.{ℕ, nat_eq}
use Rattle.bbm_tree_index.proofs.attach_prepared.attach_all.Given as goal

abbrev pub invariant-loop-index : goal.invariant-loop-index
invariant-loop-index l = record {
  roles : (p : ℕ) → Hung l.tables l.index p (get nat_eq l.initial.roles p) (get nat_eq l.roles p);
  same : SameKeys l.initial.roles l.roles;
}
