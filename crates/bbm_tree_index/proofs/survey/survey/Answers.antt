use Rattle.bbm_tree_index.proofs.Common.{get, Surveyed, fresh_of, value_at}
use Rattle.bbm_rules.proofs.Common.{length, nat_eq, [], ◌∷◌, ◌++◌, sym, ap, ◌∙◌, subst, arith}
use Rattle.bbm_tree_index.proofs.Starts.{one_table}
use Rattle.bbm_tree_index.proofs.survey.survey.Goals as goal

pub loop-depth-init : goal.loop-depth-init
loop-depth-init c = let e = c.in_ok-push_table.ensures ∙ ap (λ xs. xs ++ c.args.first ∷ []) c.new-tables.ensures.items in record {
  count = ap length e;
  tables = subst (Surveyed c.args.header.now (fresh_of c.args.roles.now) (value_at c.args.map.now) (get nat_eq c.args.first)) (sym e)
      (one_table c.args.header.now (fresh_of c.args.roles.now) (value_at c.args.map.now) c.args.first c.requires);
}

pub push_level-requires-clause-tables : goal.push_level-requires-clause-tables
push_level-requires-clause-tables c = (get nat_eq c.args.first, c.loop-depth.invariant.tables)

pub loop-depth-preserved : goal.loop-depth-preserved
loop-depth-preserved c = record {
  count = omega (arith, c.in_ok-push_level.ensures.count);
  tables = c.in_ok-push_level.ensures.tables (get nat_eq c.args.first) c.loop-depth.invariant.tables;
}
