-- The two definitions of the holder say the same.
use Rattle.bbm_locks.proofs.Last.{last_taker}
use Rattle.bbm_locks.proofs.laws.law_last_taker.Goals as goal

pub returns : goal.returns
returns c = last_taker
