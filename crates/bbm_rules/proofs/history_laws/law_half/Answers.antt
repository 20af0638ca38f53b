use Rattle.bbm_rules.proofs.PatternLaw.{half_complete, half_sound}
use Rattle.bbm_rules.proofs.history_laws.law_half.Goals as goal

pub returns : goal.returns
returns c heading = record {
  sound = half_sound heading;
  complete = half_complete heading;
}
