-- Lists of places that end in leaves whose regions hold an address are one.
use Rattle.bbm_descriptor.proofs.WalkSteps.{one_leaf}
use Rattle.bbm_descriptor.proofs.laws.law_one_leaf.Goals as goal

pub returns : goal.returns
returns c = one_leaf
