use Rattle.bbm_histories.proofs.ViewLemmas.{frozen_view}
use Rattle.bbm_histories.proofs.trees.law_frozen_view.Goals as goal

pub returns : goal.returns
returns c heading trust = frozen_view heading trust (c.below.ensures heading trust)
