use Rattle.bbm_rules.proofs.Common.{List, sym, ◌∙◌, ap, inl, inr, Event, Init, noted, is_null}
use Rattle.bbm_histories.proofs.FreshLemmas.{unfresh}
use Rattle.bbm_histories.proofs.HeldSteps.{init_outside}
use Rattle.bbm_histories.proofs.Induction.{last_kept}
use Rattle.bbm_histories.proofs.Invariants.{invariants}
use Rattle.bbm_histories.proofs.TreeAfter.{kept_or_left}
use Rattle.bbm_histories.proofs.TreeSteps.{added, attached_fresh}
use Rattle.bbm_histories.proofs.trees.law_one_position.Goals as goal

pub returns : goal.returns
returns c heading trust = let b = c.below.ensures heading trust in record {
  gained = λ h e kept n t.
      let parts = last_kept heading trust b h e kept in
      let i = invariants heading trust b h parts.0 in
      elim (added heading trust b (noted heading trust h) i.odd i.one e n parts.1 t) [
        | inl old ↦ inl old
        | inr a ↦ inr (a, attached_fresh heading trust b (noted heading trust h) i.odd i.one e n a)
      ];
  kept = λ h e proper kept n t.
      let parts = last_kept heading trust b h e kept in
      kept_or_left heading trust b (noted heading trust h) (invariants heading trust b h parts.0) proper e parts.1 n t;
  unfresh = unfresh heading trust;
  no_init = λ h q page kept.
      let parts = last_kept heading trust b h (Init q page) kept in
      let k = init_outside heading trust (noted heading trust h) q page parts.1 in
      (k.0, ap (λ (es : List Event). is_null es page) (sym (b.notes_keep_the_events h)) ∙ k.1);
}
