use Rattle.bbm_entry_state.proofs.Taking.{start_stands, write_stands, dsb_stands, tlbi_stands, complete_stands}
use Rattle.bbm_entry_state.proofs.laws.law_steps.Goals as goal

pub returns-clause-start : goal.returns-clause-start
returns-clause-start c = start_stands

pub returns-clause-write : goal.returns-clause-write
returns-clause-write c = write_stands

pub returns-clause-dsb : goal.returns-clause-dsb
returns-clause-dsb c = dsb_stands

pub returns-clause-tlbi : goal.returns-clause-tlbi
returns-clause-tlbi c = tlbi_stands

pub returns-clause-complete : goal.returns-clause-complete
returns-clause-complete c = complete_stands
