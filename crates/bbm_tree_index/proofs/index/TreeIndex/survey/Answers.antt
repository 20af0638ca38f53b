use Rattle.bbm_tree_index.proofs.Common.{get}
use Rattle.bbm_rules.proofs.Common.{nat_eq, arith}
use Rattle.bbm_tree_index.specs.Index.{fresh_in, heading_of, role_in}
use Rattle.bbm_tree_index.proofs.index.TreeIndex.survey.Goals as goal

pub returns-clause-tables : goal.returns-clause-tables
unfolding fresh_in heading_of role_in
returns-clause-tables c = record {
  first = get nat_eq c.in_ok-first.first;
  starting = c.in_ok-first.ensures.start;
  surveyed = rw c.roles.ensures at c.in_ok-tables.ensures.tables;
  filled = omega (arith, c.in_ok-tables.ensures.count);
  count = λ s h. omega (arith, (c.begin-level.ensures.same s h).1, c.in_ok-tables.ensures.count);
}
