use Rattle.bbm_counterrun.proofs.StepsFit.{steps_fit}
use Rattle.bbm_counterrun.proofs.laws.law_steps_fit.Goals as goal

pub returns : goal.returns
returns c heading steps s log few run =
    (steps_fit heading (record {
      tags = c.law_readable_tag.ensures heading;
      registers = c.law_readable_register.ensures.sound;
      stood = c.law_readable_standing.ensures.sound;
    }) steps s log few run).0
