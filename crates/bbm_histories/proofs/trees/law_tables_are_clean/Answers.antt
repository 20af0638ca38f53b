use Rattle.bbm_rules.proofs.Common.{noted}
use Rattle.bbm_histories.proofs.Induction.{unbroken}
use Rattle.bbm_histories.proofs.TablesClean.{judged, since, tables_clean}
use Rattle.bbm_histories.proofs.trees.law_tables_are_clean.Goals as goal

pub returns : goal.returns
returns c heading trust = let b = c.below.ensures heading trust in record {
  clean = λ h on kept page there. tables_clean heading trust b on h kept page there;
  since = since heading trust;
  judged = λ h e on proper kept others.
      judged heading trust b on proper h e kept
      (unbroken heading trust (noted heading trust h) e others);
}
