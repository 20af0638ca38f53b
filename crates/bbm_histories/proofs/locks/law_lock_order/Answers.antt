use Rattle.bbm_histories.proofs.LockOrder.{lock_order}
use Rattle.bbm_histories.proofs.locks.law_lock_order.Goals as goal

pub returns : goal.returns
returns c heading trust = lock_order heading trust (c.below.ensures heading trust)
