use Rattle.bbm_rules.proofs.LockLaw.{lock_complete}
use Rattle.bbm_rules.proofs.event_laws.law_lock_held.Goals as goal

pub returns-clause-complete : goal.returns-clause-complete
returns-clause-complete c = lock_complete
