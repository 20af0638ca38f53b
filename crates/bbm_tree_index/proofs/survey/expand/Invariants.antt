use Rattle.bbm_tree_index.proofs.Common.{get, keys, Counts, Partly, Plain, Reached, Uniform, Well, fresh_of, value_at}
use Rattle.bbm_rules.proofs.Common.{ℕ, List, nat_eq, take, list_any, page_of, Node}
use Rattle.bbm_tree_index.proofs.survey.expand.Given as goal

abbrev pub invariant-loop-index : goal.invariant-loop-index
invariant-loop-index l = record {
  well : Well l.header (get nat_eq l.below);
  level : (starts : List Node) (k : ℕ) → Uniform (fresh_of l.roles) (value_at l.map) starts k →
      Plain l.header (Reached (fresh_of l.roles) (value_at l.map) starts k) →
      ((q : ℕ) → Counts (Reached (fresh_of l.roles) (value_at l.map) starts k) q (get nat_eq l.level q)) →
      (q : ℕ) → Counts (Partly (fresh_of l.roles) (value_at l.map) starts k
      (λ a. list_any (nat_eq (page_of a)) (take l.index (keys l.level)))) q (get nat_eq l.below q);
}
