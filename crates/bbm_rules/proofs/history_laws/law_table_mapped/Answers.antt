use Rattle.bbm_rules.proofs.MappedLaw.{none_mapped, tables_kept}
use Rattle.bbm_rules.proofs.history_laws.law_table_mapped.Goals as goal

pub returns : goal.returns
returns c heading trust = record {
  sound = tables_kept heading trust;
  complete = none_mapped heading trust;
}
