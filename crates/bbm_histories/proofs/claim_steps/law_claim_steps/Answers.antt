use Rattle.bbm_histories.proofs.ClaimLemmas.{half_by_step, listed_step, seen_by_step}
use Rattle.bbm_histories.proofs.StepLemmas.{cleansed_under_step}
use Rattle.bbm_histories.proofs.claim_steps.law_claim_steps.Goals as goal

pub returns : goal.returns
returns c heading trust = record {
  cleansed = λ place p. cleansed_under_step heading place p trust;
  listed = λ cs place p. listed_step heading place p cs;
  seen = seen_by_step heading;
  half = half_by_step heading;
}
