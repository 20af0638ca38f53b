use Rattle.bbm_idle.proofs.IdleLaw.{idle_complete, idle_sound}
use Rattle.bbm_idle.proofs.laws.law_idle_event.Goals as goal

pub returns : goal.returns
returns c heading = record {
  sound = idle_sound heading (c.terms.ensures heading);
  complete = idle_complete heading (c.terms.ensures heading);
}
