use Rattle.bbm_rules.proofs.Common.{Noted}
use Rattle.bbm_rules.specs.Notes.{event_of}
use Rattle.bbm_histories.proofs.StepLemmas.{cleansed_step, half_step, seen_step, waits_step}
use Rattle.bbm_histories.proofs.steps.law_pattern_steps.Goals as goal

pub returns : goal.returns
returns c heading = record {
  waits = λ q. waits_step Noted event_of q;
  seen = seen_step heading;
  half = half_step heading;
  cleansed = cleansed_step heading;
}
