use Rattle.bbm_alike.proofs.AlikeStep.{alike_step}
use Rattle.bbm_alike.proofs.steps.law_alike_step.Goals as goal

pub returns : goal.returns
returns c heading one other h h' e pes unbroken unbroken' a t =
    alike_step heading (c.known.ensures heading) one other h h' e pes unbroken unbroken' a t
