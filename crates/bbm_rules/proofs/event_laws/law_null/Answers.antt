use Rattle.bbm_rules.proofs.NullLaw.{null_complete, null_sound}
use Rattle.bbm_rules.proofs.event_laws.law_null.Goals as goal

pub returns-clause-sound : goal.returns-clause-sound
returns-clause-sound c = null_sound

pub returns-clause-complete : goal.returns-clause-complete
returns-clause-complete c = null_complete
