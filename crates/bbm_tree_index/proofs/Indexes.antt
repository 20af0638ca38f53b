-- What keeps nodes, soundness and agreement, said of indexes.
use Rattle.bbm_tree_index.proofs.Common.{IndexMap, get, Sound, is_fresh_role, is_null_role, node_by, roles_of}
use Rattle.bbm_tree_index.proofs.Common.{TreeIndex, Role, Gone}
use Rattle.bbm_rules.proofs.Common.{arith, nat_tests, ◌≡◌, ℕ, Bool, true, false, Some, None, refl, ap, ◌∙◌, ◌==◌, ◌||◌}
use Rattle.bbm_rules.proofs.Common.{◌&&◌, not, if◌then◌else◌, nat_eq, proved, Is}
use Rattle.bbm_tree_index.specs.Index.{fresh_in, heading_of, node_in, null_in, role_in}
use Rattle.bbm_tree_index.proofs.Climbing.{SameTrees, fresh_part, node_same, out_part, tree_part}
use Rattle.bbm_tree_index.proofs.Sounds.{sound_same}

module _ (old new : TreeIndex) (heading : heading_of new ≡ heading_of old) (trees : SameTrees (role_in old) (role_in new)) where
  pub node_kept : (p : ℕ) → node_in new p ≡ node_in old p
  unfolding node_in
  node_kept p = ap (λ h. node_by (role_in new) h p) heading ∙ node_same (role_in old) (role_in new) trees (heading_of old) p

-- a page got a role
module _ {S : Type 0} (old : TreeIndex) (new : IndexMap ℕ Role S) (page : ℕ) (role : Role)
    (put : (p : ℕ) → get nat_eq new p ≡ (if p == page then Some role else get nat_eq old.roles p)) where
  test_put : (test : Role → Bool) (p : ℕ) → test (roles_of new p) ≡ (if p == page then test role else test (role_in old p))
  unfolding role_in
  test_put test p = grind (arith, put p)

  -- it was in no tree, and is in none
  module _ (was_out : tree_part (role_in old page) ≡ Gone) (out : tree_part role ≡ Gone) where
    pub trees_put : SameTrees (roles_of old.roles) (roles_of new)
    unfolding role_in
    trees_put p = grind (arith, nat_tests, put p)

    pub sound_put : Sound (roles_of new) old.header
    sound_put = sound_same (roles_of old.roles) (roles_of new) old.header trees_put old.sound

module _ (old new : TreeIndex) (page : ℕ) (role : Role)
    (put : (p : ℕ) → get nat_eq new.roles p ≡ (if p == page then Some role else get nat_eq old.roles p)) where
  pub fresh_put : (p : ℕ) → fresh_in new p ≡ (if p == page then is_fresh_role role else fresh_in old p)
  unfolding fresh_in role_in
  fresh_put = test_put old new.roles page role put is_fresh_role

  pub null_put : (p : ℕ) → null_in new p ≡ (if p == page then is_null_role role else null_in old p)
  unfolding null_in role_in
  null_put = test_put old new.roles page role put is_null_role

pub true_there : (b x : Bool) → (if b then true else x) ≡ (b || x)
true_there = proved 2 (λ b x. Is (if b then true else x) (b || x)) refl

pub false_there : (b x : Bool) → (if b then false else x) ≡ (x && not b)
false_there = proved 2 (λ b x. Is (if b then false else x) (x && not b)) refl

pub fresh_out : (index : TreeIndex) (p : ℕ) → fresh_in index p ≡ true → tree_part (role_in index p) ≡ Gone
unfolding fresh_in
fresh_out index p e = fresh_part (role_in index p) e

pub node_out : (index : TreeIndex) (p : ℕ) → node_in index p ≡ None → tree_part (role_in index p) ≡ Gone
unfolding node_in
node_out index p e = out_part (role_in index) (heading_of index) p (role_in index p) e
