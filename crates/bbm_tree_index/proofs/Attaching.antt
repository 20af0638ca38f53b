-- The words of an index after pages were attached.
use Rattle.bbm_tree_index.proofs.Common.{IndexMap, get, PlaceMap, Sound, Hung, is_fresh_role, node_by, Attached}
use Rattle.bbm_tree_index.proofs.Common.{starts_of, TreeIndex, Mark, Attach, Role, Untracked, value_at}
use Rattle.bbm_rules.proofs.Common.{◌≡◌, ℕ, ◌⊎◌, ◌&&◌, List, Option, Some, is_none, length, nat_eq, unwrap_or, inl, inr}
use Rattle.bbm_rules.proofs.Common.{sym, ap, ◌∙◌, subst, Node}
use Rattle.bbm_tree_index.specs.Index.{fresh_in, heading_of, node_in, null_in, role_in}
use Rattle.bbm_tree_index.specs.IndexChanges.{Attaches}
use Rattle.bbm_tree_index.proofs.Hung.{fresh_hung, node_back, node_in_tree, node_reached, null_hung, sound_hung}
use Rattle.bbm_tree_index.proofs.Reaching.{Ready, attached_reach, reach_attached}
use Rattle.bbm_tree_index.proofs.Surveying.{IsHung, Stays, all_hung}

-- after the pages got their roles
module _ {S : Type 0} {tables : List (IndexMap ℕ Mark S)} {old : TreeIndex} {map : PlaceMap} {at : Attach}
    (ready : Ready tables old map at) where
  pub sound_after : (table : ℕ → Option Role) → ((p : ℕ) → Hung tables (length tables) p (get nat_eq old.roles p) (table p))
      → Sound (λ p. unwrap_or (table p) Untracked) (heading_of old)
  sound_after table hung = sound_hung ready (λ p. unwrap_or (table p) Untracked)
      (λ p. all_hung ready table p (hung p))

  module _ (new : TreeIndex) (heading : heading_of new ≡ heading_of old)
      (hung : (p : ℕ) → Hung tables (length tables) p (get nat_eq old.roles p) (get nat_eq new.roles p)) where
    roles_hung : (p : ℕ) → IsHung ready (role_in new) p ⊎ Stays ready (role_in new) p
    unfolding role_in
    roles_hung p = all_hung ready (get nat_eq new.roles) p (hung p)

    node_new : (p : ℕ) → node_in new p ≡ node_by (role_in new) (heading_of old) p
    unfolding node_in
    node_new p = ap (λ h. node_by (role_in new) h p) heading

    node_from : (p : ℕ) (m : Node) → node_in new p ≡ Some m
        → (node_in old p ≡ Some m) ⊎ ((m.page ≡ p) × Attached (fresh_in old) (value_at map) (starts_of old at) m)
    unfolding node_in
    node_from p m e = elim (node_back ready (role_in new) roles_hung p m (sym (node_new p) ∙ e)) [
      | inl h ↦ inl h
      | inr h ↦ inr (h.0, reach_attached ready m h.1)
    ]

    node_to : (p : ℕ) (m : Node)
        → (node_in old p ≡ Some m) ⊎ ((m.page ≡ p) × Attached (fresh_in old) (value_at map) (starts_of old at) m)
        → node_in new p ≡ Some m
    unfolding node_in
    node_to p m (inl e) = node_new p ∙ node_in_tree ready (role_in new) roles_hung p m e
    node_to p m (inr (page, a)) = node_new p ∙ subst (λ q. node_by (role_in new) (heading_of old) q ≡ Some m) page
        (node_reached ready (role_in new) roles_hung m (attached_reach ready m a))

    fresh_after : (p : ℕ) → fresh_in new p ≡ (fresh_in old p && is_none (node_in new p))
    unfolding fresh_in
    fresh_after p = fresh_hung ready (role_in new) roles_hung p
        ∙ ap (λ o. is_fresh_role (role_in old p) && is_none o) (sym (node_new p))

    pub attaches : Attaches (value_at map) at old new
    unfolding null_in
    attaches = record {
      node = λ p m. (node_from p m, node_to p m);
      fresh = fresh_after;
      null = null_hung ready (role_in new) roles_hung;
    }
