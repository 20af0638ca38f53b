-- No leaf's region holds such an address.
use Rattle.bbm_descriptor.proofs.WalkSteps.{outside_answer}
use Rattle.bbm_descriptor.proofs.laws.law_outside.Goals as goal

pub returns : goal.returns
returns c = outside_answer
