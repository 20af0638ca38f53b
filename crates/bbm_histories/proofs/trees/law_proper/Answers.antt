use Rattle.bbm_histories.proofs.ProperLemmas.{proper}
use Rattle.bbm_histories.proofs.trees.law_proper.Goals as goal

pub returns : goal.returns
returns c = proper
