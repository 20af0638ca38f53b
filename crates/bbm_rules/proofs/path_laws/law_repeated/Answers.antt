use Rattle.bbm_rules.proofs.RepeatedLaw.{repeated_complete, repeated_sound}
use Rattle.bbm_rules.proofs.path_laws.law_repeated.Goals as goal

pub returns : goal.returns
returns c heading trust = record {
  sound = repeated_sound heading trust;
  complete = repeated_complete heading trust;
}
