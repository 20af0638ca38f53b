use Rattle.bbm_histories.proofs.ValueSteps.{readable_step}
use Rattle.bbm_histories.proofs.value_steps.law_readable_step.Goals as goal

pub returns : goal.returns
returns c heading h place p = readable_step heading place p h
