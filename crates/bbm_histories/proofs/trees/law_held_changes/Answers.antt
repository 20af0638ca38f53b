use Rattle.bbm_histories.proofs.Common.{Kind, Below}
use Rattle.bbm_rules.proofs.Common.{◌≡◌, ℕ, ◌<◌, Bool, true, false, List, Some, None, refl, sym, ◌∙◌, ap, subst}
use Rattle.bbm_rules.proofs.Common.{is_valid, Event, Heading, Trust, noted, held, events_of, page_of, value_of}
use Rattle.bbm_histories.proofs.FreshLemmas.{content, held_is_present}
use Rattle.bbm_histories.proofs.HeldSteps.{held_change}
use Rattle.bbm_histories.proofs.Induction.{last_kept}
use Rattle.bbm_histories.proofs.Invariants.{invariants}
use Rattle.bbm_histories.proofs.TreeSteps.{is_tracked, node_is}
use Rattle.bbm_histories.proofs.trees.law_held_changes.Goals as goal

-- where nothing is held the present value is invalid
unheld : (heading : Heading) (trust : Trust) → Below heading trust → (kind : Kind) (level place : ℕ) (h : List Event)
    → 0 < heading.pes → held heading trust kind level place (noted heading trust h) ≡ None
    → is_valid kind level (value_of h place) ≡ false
unheld heading trust b kind level place h pes none = by (is_valid kind level (value_of h place)) refl
  where
    by : (v : Bool) → is_valid kind level (value_of h place) ≡ v → v ≡ false
    by false e = refl
    by true e =
        let present = value_of (events_of (noted heading trust h)) place in
        let holds : held heading trust kind level place (noted heading trust h) ≡ Some present
        = b.held.live kind level place (noted heading trust h) pes
        (subst (λ (es : List Event). is_valid kind level (value_of es place) ≡ true) (sym (b.notes_keep_the_events h))
        e) in
        let apart : None ≡ Some present = sym none ∙ holds in cc

pub returns : goal.returns
returns c heading trust = let b = c.below.ensures heading trust in record {
  changes = λ h e pes kept n place t inside.
      let parts = last_kept heading trust b h e kept in
      let i = invariants heading trust b h parts.0 in
      held_change heading trust b (noted heading trust h) n place e pes parts.1
      (is_tracked heading trust b (noted heading trust h) n (page_of place) t (sym inside))
      (node_is heading trust b (noted heading trust h) i.one n (page_of place) t (sym inside));
  attached = λ h kept kind level place value fresh holds.
      let i = invariants heading trust b h kept in
      ap (λ (es : List Event). value_of es place) (sym (b.notes_keep_the_events h))
      ∙ held_is_present heading trust b kind level place (noted heading trust h) value
      (content heading trust b (noted heading trust h) i.odd) fresh holds;
  unheld = unheld heading trust b;
}
