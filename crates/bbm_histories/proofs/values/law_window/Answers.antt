use Rattle.bbm_histories.proofs.WindowLemmas.{window}
use Rattle.bbm_histories.proofs.values.law_window.Goals as goal

pub returns : goal.returns
returns c heading trust = window heading trust (c.below.ensures heading trust)
