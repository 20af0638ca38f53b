use Rattle.bbm_rules.proofs.Common.{refl}
use Rattle.bbm_histories.proofs.ChildlessSteps.{after, all_ended, ends_all, from_none, no_table, to_none}
use Rattle.bbm_histories.proofs.tree_steps.law_childless_step.Goals as goal

pub returns : goal.returns
returns c heading trust = let b = c.below.ensures heading trust in record {
  table = λ h m value next table.
      (to_none heading trust b m value next table h, from_none heading trust b m value next table h);
  no_table = no_table heading trust;
  step = λ n h m value next pes no_dsb table.
      after heading trust b m value next table pes n h n.event refl (λ d. no_dsb d.0 d.1 d.2);
  dsb = λ n h m value next q dsb is table. (
    ends_all heading trust b m value next table n h,
    all_ended heading trust b m value next table n h (q, dsb, is),
  );
}
