use Rattle.bbm_entry_state.proofs.Completing.{completes_all, completes_some}
use Rattle.bbm_entry_state.proofs.laws.law_completes.Goals as goal

pub returns-clause-clean : goal.returns-clause-clean
returns-clause-clean c = completes_all

pub returns-clause-broken : goal.returns-clause-broken
returns-clause-broken c = completes_some
