use Rattle.bbm_histories.proofs.LeafLemmas.{lower_leaves}
use Rattle.bbm_histories.proofs.trees.law_lower_leaves.Goals as goal

pub returns : goal.returns
returns c heading trust = lower_leaves heading trust (c.below.ensures heading trust)
