use Rattle.bbm_tree_index.proofs.Common.{get, Surveyed, fresh_of, value_at}
use Rattle.bbm_rules.proofs.Common.{◌≡◌, suc, length, nat_eq}
use Rattle.bbm_tree_index.proofs.survey.survey.Given as goal

abbrev pub invariant-loop-depth : goal.invariant-loop-depth
invariant-loop-depth l = record {
  count : length l.tables.items ≡ suc l.depth;
  tables : Surveyed l.header (fresh_of l.roles) (value_at l.map) (get nat_eq l.fn.first) l.tables.items;
}
