use Rattle.bbm_tree_index.proofs.Common.{get, value_at, Expands, StaysWell, with_first}
use Rattle.bbm_rules.proofs.Common.{nat_eq}
use Rattle.bbm_tree_index.proofs.survey.expand_eight.Given as goal

abbrev pub invariant-loop-index : goal.invariant-loop-index
invariant-loop-index l = record {
  well : StaysWell l.initial.below l.below;
  level : Expands (value_at l.map) l.spot l.many l.position.place (with_first l.position.place l.fn.from)
      (with_first l.position.place l.index) (get nat_eq l.initial.below) (get nat_eq l.below);
}
