use Rattle.bbm_rules.proofs.Common.{refl, noted, Dsb, Unroot}
use Rattle.bbm_histories.proofs.Induction.{last_kept}
use Rattle.bbm_histories.proofs.Invariants.{invariants}
use Rattle.bbm_histories.proofs.NodeSteps.{node_after_dsb, node_after_unroot, node_attached, node_stays, unattached}
use Rattle.bbm_histories.proofs.tree_steps.law_node_step.Goals as goal

pub returns : goal.returns
returns c heading trust = let b = c.below.ensures heading trust in record {
  attached = λ h e proper kept m a.
      let parts = last_kept heading trust b h e kept in
      node_attached heading trust b (noted heading trust h) (invariants heading trust b h parts.0) proper e parts.1 m a;
  others = λ h e proper kept no_dsb no_unroot page none.
      let parts = last_kept heading trust b h e kept in
      node_stays heading trust b (noted heading trust h) (invariants heading trust b h parts.0) proper e parts.1
      (λ d. no_dsb d.0 d.1 d.2) no_unroot page none;
  unroot = λ h q first proper kept page.
      let parts = last_kept heading trust b h (Unroot q first) kept in
      node_after_unroot heading trust b (noted heading trust h) (invariants heading trust b h parts.0)
      proper q first parts.1 page;
  dsb = λ h q dsb kept page.
      let parts = last_kept heading trust b h (Dsb q dsb) kept in
      node_after_dsb heading trust b (noted heading trust h) (invariants heading trust b h parts.0)
      (Dsb q dsb) (q, dsb, refl) parts.1 page;
  unattached = unattached heading trust;
}
