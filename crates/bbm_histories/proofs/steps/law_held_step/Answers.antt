use Rattle.bbm_histories.proofs.StepLemmas.{held_step}
use Rattle.bbm_histories.proofs.steps.law_held_step.Goals as goal

pub returns : goal.returns
returns c heading trust kind level place n h pes =
    held_step heading trust (c.below.ensures heading trust) kind level place pes n h
