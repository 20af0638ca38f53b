use Rattle.bbm_rules.proofs.Common.{refl, noted}
use Rattle.bbm_histories.proofs.Invariants.{invariants}
use Rattle.bbm_histories.proofs.TreeSteps.{node_is}
use Rattle.bbm_histories.proofs.trees.law_one_node.Goals as goal

pub returns : goal.returns
returns c heading trust = let b = c.below.ensures heading trust in record {
  at_most_one = λ h kept. (invariants heading trust b h kept).one;
  the_first = λ h kept n t.
      node_is heading trust b (noted heading trust h) (invariants heading trust b h kept).one n n.page t refl;
}
