use Rattle.bbm_rules.proofs.Common.{noted}
use Rattle.bbm_histories.proofs.FreshSteps.{attached_unfresh, fresh_after}
use Rattle.bbm_histories.proofs.Induction.{last_kept}
use Rattle.bbm_histories.proofs.Invariants.{invariants}
use Rattle.bbm_histories.proofs.value_steps.law_fresh_step.Goals as goal

pub returns : goal.returns
returns c heading trust = let b = c.below.ensures heading trust in record {
  attached = λ h e proper kept m a.
      let parts = last_kept heading trust b h e kept in
      attached_unfresh heading trust b (noted heading trust h) (invariants heading trust b h parts.0)
      e parts.1 proper m a;
  others = λ h e kept page none.
      let parts = last_kept heading trust b h e kept in
      fresh_after heading trust b (noted heading trust h) (invariants heading trust b h parts.0) e parts.1 page none;
}
