use Rattle.bbm_rules.proofs.TreeLaw.{childless_complete, childless_sound}
use Rattle.bbm_rules.proofs.history_laws.law_childless.Goals as goal

pub returns : goal.returns
returns c heading trust = record {
  sound = childless_sound heading trust;
  complete = childless_complete heading trust;
}
