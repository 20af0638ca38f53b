use Rattle.bbm_rules.proofs.Common.{refl}
use Rattle.bbm_rules.specs.Tree.{tree}
use Rattle.bbm_oracle_trees.proofs.history.History.new.Goals as goal

pub invariant_of-result : goal.invariant_of-result
unfolding tree
invariant_of-result g c = record {
  nodes = rw (c.new.ensures, c.new-2.ensures.nodes) refl;
  fresh = λ page. rw (c.new.ensures, c.new-2.ensures.fresh) refl;
  clean = λ on page. rw (c.new.ensures, c.new-2.ensures.clean) refl;
}
