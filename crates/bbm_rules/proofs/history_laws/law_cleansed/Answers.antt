use Rattle.bbm_rules.proofs.PatternLaw.{cleansed_complete, cleansed_sound}
use Rattle.bbm_rules.proofs.history_laws.law_cleansed.Goals as goal

pub returns : goal.returns
returns c heading trust = record {
  sound = cleansed_sound heading trust;
  complete = cleansed_complete heading trust;
}
