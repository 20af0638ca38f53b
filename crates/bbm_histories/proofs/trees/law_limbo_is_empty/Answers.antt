use Rattle.bbm_histories.proofs.ViewLemmas.{limbo_is_empty}
use Rattle.bbm_histories.proofs.trees.law_limbo_is_empty.Goals as goal

pub returns : goal.returns
returns c heading trust = limbo_is_empty heading trust (c.below.ensures heading trust)
