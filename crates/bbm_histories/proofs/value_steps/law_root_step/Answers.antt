use Rattle.bbm_histories.proofs.ValueSteps.{is_root_step, root_step}
use Rattle.bbm_histories.proofs.value_steps.law_root_step.Goals as goal

pub returns-clause-root : goal.returns-clause-root
returns-clause-root c = root_step

pub returns-clause-of_kind : goal.returns-clause-of_kind
returns-clause-of_kind c e h kind page = is_root_step kind page e h
