use Rattle.bbm_histories.proofs.EmptyNow.{never_empty}
use Rattle.bbm_histories.proofs.trees.law_emptied_at_once.Goals as goal

pub returns : goal.returns
returns c heading trust h late pes kept n place value t inside holds empty =
    never_empty heading trust (c.below.ensures heading trust) late pes h kept n place value t inside holds empty
