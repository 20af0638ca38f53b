use Rattle.bbm_rules.proofs.Common.{noted}
use Rattle.bbm_histories.proofs.Induction.{last_kept}
use Rattle.bbm_histories.proofs.Invariants.{invariants}
use Rattle.bbm_histories.proofs.TablesClean.{clean_after, unmapped_after}
use Rattle.bbm_histories.proofs.trees.law_mapped_step.Goals as goal

pub returns : goal.returns
returns c heading trust = let b = c.below.ensures heading trust in record {
  unmapped = λ h e kept.
      let parts = last_kept heading trust b h e kept in
      unmapped_after heading trust b (noted heading trust h) (invariants heading trust b h parts.0) e parts.1;
  clean = λ h e proper kept.
      let parts = last_kept heading trust b h e kept in
      clean_after heading trust b (noted heading trust h) (invariants heading trust b h parts.0) proper e parts.1;
}
