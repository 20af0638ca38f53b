use Rattle.bbm_histories.proofs.TagClaims.{listed_lost, waits_at_step}
use Rattle.bbm_histories.proofs.claim_steps.law_tag_claim_steps.Goals as goal

pub returns : goal.returns
returns c heading = record {
  waits = waits_at_step heading;
  lost = λ cs p tag q dsb h. listed_lost heading p tag q dsb h cs;
}
