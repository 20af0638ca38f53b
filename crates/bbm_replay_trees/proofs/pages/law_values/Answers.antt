use Rattle.bbm_rules.proofs.Common.{cond, ◌==◌, ap, sym, ◌∙◌, page_of}
use Rattle.bbm_rules.proofs.ChangesLaw.{values_kept}
use Rattle.bbm_lemmas.proofs.Numbers.{same_swapped}
use Rattle.bbm_replay_trees.proofs.pages.law_values.Goals as goal

pub returns : goal.returns
returns c = record {
  init = λ h old new pe page same is a.
      is a ∙ (ap (λ b. cond b 0 (old.value a)) (same_swapped (page_of a) page)
      ∙ ap (λ v. cond (page == page_of a) 0 v) (same a));
  write = λ h old new pe place v same is a.
      is a ∙ (ap (λ b. cond b v (old.value a)) (same_swapped a place) ∙ ap (λ x. cond (place == a) v x) (same a));
  others = λ h view e stays same a. same a ∙ sym (values_kept e h a stays);
}
