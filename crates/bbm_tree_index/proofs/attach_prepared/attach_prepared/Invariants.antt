use Rattle.bbm_tree_index.proofs.Common.{get, keys, hung, SameKeys}
use Rattle.bbm_rules.proofs.Common.{◌≡◌, ℕ, nat_eq, take, if◌then◌else◌, list_any}
use Rattle.bbm_tree_index.proofs.attach_prepared.attach_prepared.Given as goal

abbrev pub invariant-loop-index : goal.invariant-loop-index
invariant-loop-index l = record {
  roles : (p : ℕ) → get nat_eq l.roles p ≡ (if list_any (nat_eq p) (take l.index (keys l.level))
      then hung (get nat_eq l.level p) (get nat_eq l.initial.roles p) else get nat_eq l.initial.roles p);
  same : SameKeys l.initial.roles l.roles;
}
