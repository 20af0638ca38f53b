use Rattle.bbm_rules.proofs.Common.{Patterns}
use Rattle.bbm_claims.proofs.known.known.Goals as goal

pub returns : goal.returns
returns c heading = record {
  claim_steps = c.law_claim_steps.ensures heading Patterns;
  pattern_steps = c.law_pattern_steps.ensures heading;
  tag_claim_steps = c.law_tag_claim_steps.ensures heading;
}
