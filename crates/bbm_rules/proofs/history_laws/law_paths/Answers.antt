use Rattle.bbm_rules.proofs.AttachLaw.{from_attached, to_attached}
use Rattle.bbm_rules.proofs.TreeLaw.{paths_complete, paths_sound}
use Rattle.bbm_rules.proofs.history_laws.law_paths.Goals as goal

pub returns : goal.returns
returns c heading trust = record {
  sound = paths_sound heading trust;
  complete = paths_complete heading trust;
  from_attached = from_attached heading trust;
  to_attached = to_attached heading trust;
}
