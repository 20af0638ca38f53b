use Rattle.bbm_alike.proofs.Onward.{onward}
use Rattle.bbm_alike.proofs.steps.law_alike_onward.Goals as goal

pub returns : goal.returns
returns c heading newer h h' pes a unbroken' unbroken =
    onward heading (c.known.ensures heading) pes h h' a unbroken' newer unbroken
