use Rattle.bbm_rules.proofs.TreeLaw.{limbo_complete, limbo_sound}
use Rattle.bbm_rules.proofs.history_laws.law_limbo.Goals as goal

pub returns : goal.returns
returns c = record {
  sound = limbo_sound;
  complete = limbo_complete;
}
