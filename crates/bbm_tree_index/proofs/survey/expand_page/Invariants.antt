use Rattle.bbm_tree_index.proofs.Common.{get, value_at, Expands, StaysWell, with_first}
use Rattle.bbm_rules.proofs.Common.{◌*◌, nat_eq}
use Rattle.bbm_tree_index.proofs.survey.expand_page.Given as goal

abbrev pub invariant-loop-part : goal.invariant-loop-part
invariant-loop-part l = record {
  well : StaysWell l.initial.below l.below;
  level : Expands (value_at l.map) l.spot l.many l.fn.page (λ done. done) (with_first l.fn.page (8 * l.part))
      (get nat_eq l.initial.below) (get nat_eq l.below);
}
