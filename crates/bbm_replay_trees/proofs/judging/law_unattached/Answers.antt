use Rattle.bbm_rules.proofs.Common.{inl, inr, is_some, ap, ◌∙◌, sym, page_of}
use Rattle.bbm_tree_index.specs.Attaching.{is_bad, is_user_global}
use Rattle.bbm_replay_trees.proofs.AttachLemmas.{attaches_none, core_some, made_is, not_fresh_none, outside_fresh}
use Rattle.bbm_replay_trees.proofs.AttachLemmas.{outside_made, outside_none}
use Rattle.bbm_replay_trees.proofs.judging.law_unattached.Goals as goal

pub returns : goal.returns
returns c heading = let b = c.below.ensures heading in record {
  attaches_none = λ h view n pe place v same same_core is cause.
      let at = sym (same (page_of place)) ∙ is in
      attaches_none heading b h n pe place v at (elim cause [
        | inl some ↦ inl (sym (core_some heading b h n place) ∙ (sym (ap is_some (same_core n place at)) ∙ some))
        | inr none ↦ inr none
      ]);
  inside = λ h view n pe place v same is none.
      let at = sym (same (page_of place)) ∙ is in (
        not_fresh_none heading b h n pe place v at none,
        made_is heading b h n pe place v at none is_bad,
        made_is heading b h n pe place v at none is_user_global,
      );
  outside = λ h view pe place v same same_fresh same_null is.
      let at = sym (same (page_of place)) ∙ is in (
        outside_none heading b h pe place v at,
        outside_fresh heading b h pe place v at view.fresh view.null same_fresh same_null,
        outside_made heading b h pe place v at is_bad,
        outside_made heading b h pe place v at is_user_global,
      );
}
