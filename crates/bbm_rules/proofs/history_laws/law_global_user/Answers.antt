use Rattle.bbm_rules.proofs.AttachLaw.{attached_lower, written_lower}
use Rattle.bbm_rules.proofs.history_laws.law_global_user.Goals as goal

pub returns : goal.returns
returns c heading trust = record {
  written = written_lower heading trust;
  attached = attached_lower heading trust;
}
