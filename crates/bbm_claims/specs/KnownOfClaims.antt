-- What the crates below prove, as one record, so that each proof here takes it as one hypothesis. No public contract
-- cites these words. Source: project's own choice.
use Rattle.bbm_rules.specs.Prelude.{Heading}
use Rattle.bbm_rules.specs.Claims.Trust.{Patterns}
use Rattle.bbm_histories.specs.HolderLaws.{TagClaimsAfter}
use Rattle.bbm_histories.specs.PatternLaws.{ClaimsAfter, PatternsAfter}

pub record Known (heading : Heading) : Type 0 where
  pub claim_steps : ClaimsAfter heading Patterns
  pub pattern_steps : PatternsAfter heading
  pub tag_claim_steps : TagClaimsAfter heading
