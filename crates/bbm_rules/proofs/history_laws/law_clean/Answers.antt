use Rattle.bbm_rules.proofs.MappedLaw.{clean_complete, clean_sound}
use Rattle.bbm_rules.proofs.history_laws.law_clean.Goals as goal

pub returns : goal.returns
returns c heading trust = record {
  sound = clean_sound heading trust;
  complete = clean_complete heading trust;
}
