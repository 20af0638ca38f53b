use Rattle.bbm_rules.proofs.Common.{refl}
use Rattle.bbm_histories.proofs.LimboSteps.{limbo_step, place_step}
use Rattle.bbm_histories.proofs.tree_steps.law_limbo_step.Goals as goal

pub returns-clause-places : goal.returns-clause-places
returns-clause-places c h m = refl

pub returns-clause-place : goal.returns-clause-place
returns-clause-place c = place_step

pub returns-clause-step : goal.returns-clause-step
returns-clause-step c = limbo_step
