-- Each of the locks is free.
use Rattle.bbm_locks.specs.Holders.{holder_at}
use Rattle.bbm_locks.proofs.Free.{free}
use Rattle.bbm_locks.proofs.locks.Locks.new.Goals as goal

pub returns-clause-free : goal.returns-clause-free
unfolding holder_at
returns-clause-free c = λ lock. free 1024 lock

pub returns-clause-calls : goal.returns-clause-calls
unfolding holder_at
returns-clause-calls c = record { accepted = tt; holders = λ lock. free 1024 lock }
