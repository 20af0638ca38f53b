use Rattle.bbm_rules.proofs.Common.{refl, noted, Dsb}
use Rattle.bbm_histories.proofs.Induction.{last_kept}
use Rattle.bbm_histories.proofs.Invariants.{invariants}
use Rattle.bbm_histories.proofs.TreeAfter.{dsb_step, step}
use Rattle.bbm_histories.proofs.trees.law_tree_step.Goals as goal

pub returns : goal.returns
returns c heading trust = let b = c.below.ensures heading trust in record {
  step = λ h e proper kept no_dsb n.
      let parts = last_kept heading trust b h e kept in
      step heading trust b (noted heading trust h) (invariants heading trust b h parts.0) proper e parts.1
      (λ d. no_dsb d.0 d.1 d.2) n;
  dsb = λ h q dsb kept n.
      let parts = last_kept heading trust b h (Dsb q dsb) kept in
      dsb_step heading trust b (noted heading trust h) (invariants heading trust b h parts.0) (Dsb q dsb) parts.1
      (q, dsb, refl) n;
}
