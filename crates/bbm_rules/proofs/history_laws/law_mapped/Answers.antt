use Rattle.bbm_rules.proofs.MappedLaw.{mapped_complete, mapped_sound}
use Rattle.bbm_rules.proofs.history_laws.law_mapped.Goals as goal

pub returns : goal.returns
returns c heading trust = record {
  sound = mapped_sound heading trust;
  complete = mapped_complete heading trust;
}
