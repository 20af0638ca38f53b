-- The first place of a walk.
use Rattle.bbm_descriptor.proofs.WalkSteps.{first_step}
use Rattle.bbm_descriptor.proofs.laws.law_walk_begins.Goals as goal

pub returns : goal.returns
returns c = first_step
