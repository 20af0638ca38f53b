use Rattle.bbm_idle.proofs.NeededLaw.{needed_complete, needed_sound}
use Rattle.bbm_idle.proofs.laws.law_needed.Goals as goal

pub returns : goal.returns
returns c heading = record {
  sound = needed_sound heading (c.terms.ensures heading);
  complete = needed_complete heading (c.terms.ensures heading);
}
