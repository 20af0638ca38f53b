-- Two answers for an address are one.
use Rattle.bbm_descriptor.proofs.WalkSteps.{one_answer}
use Rattle.bbm_descriptor.proofs.laws.law_one_answer.Goals as goal

pub returns : goal.returns
returns c = one_answer
