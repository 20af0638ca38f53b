use Rattle.bbm_rules.proofs.Common.{length, ◌||◌, ◌==◌, List, ℕ, ap, sym, ◌∙◌, among, initialised}
use Rattle.bbm_replay_trees.proofs.PageLemmas.{count_more, known_more}
use Rattle.bbm_lemmas.proofs.Numbers.{same_swapped}
use Rattle.bbm_rules.proofs.ChangesLaw.{inits_kept, nulls_kept}
use Rattle.bbm_replay_trees.proofs.pages.law_pages.Goals as goal

pub returns : goal.returns
returns c = record {
  null = λ h old new pe page same is p.
      is p ∙ (ap (λ b. b || old.null p) (same_swapped p page) ∙ ap (λ b. page == p || b) (same p));
  same_null = λ h view e stays same p. same p ∙ sym (nulls_kept e h p stays);
  known = λ h old new pe page same is p. is p ∙ known_more (initialised h) page p (old.known p) (same p);
  same_known = λ h view e stays same p. same p ∙ ap (λ (ps : List ℕ). among p ps) (sym (inits_kept e h stays));
  count = λ h view pe page same count.
      count_more (initialised h) page view.pages (view.known page) (same page) count;
  same_count = λ h e stays. ap (λ (ps : List ℕ). length ps) (inits_kept e h stays);
}
