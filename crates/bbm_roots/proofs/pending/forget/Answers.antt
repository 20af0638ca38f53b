use Rattle.bbm_roots.proofs.Places.{at-emptied}
use Rattle.bbm_roots.proofs.pending.forget.Goals as goal

pub returns-clause-waits : goal.returns-clause-waits
returns-clause-waits c = at-emptied _ _ _ c.empty.ensures c.requires
