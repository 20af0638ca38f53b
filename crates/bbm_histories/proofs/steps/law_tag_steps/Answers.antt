use Rattle.bbm_histories.proofs.StepLemmas.{tag_lost, tag_step}
use Rattle.bbm_histories.proofs.steps.law_tag_steps.Goals as goal

pub returns : goal.returns
returns c heading = record {
  waits = tag_step heading;
  lost = tag_lost heading;
}
