-- The words of an index after pages left.
use Rattle.bbm_tree_index.proofs.Common.{Heading, PlaceMap, is_sound, stays, is_fresh_role, is_null_role, node_by, node_with}
use Rattle.bbm_tree_index.proofs.Common.{TreeIndex, Leaving, Role, Fresh, Gone, Null, kept, leaves as leaves_node}
use Rattle.bbm_rules.proofs.Common.{arith, ◌≡◌, ℕ, Bool, true, false, Option, Some, None, refl, sym, ap, ◌∙◌, if◌then◌else◌}
use Rattle.bbm_rules.proofs.Common.{Node, false≢true}
use Rattle.bbm_tree_index.specs.Index.{fresh_in, heading_of, node_in, null_in, role_in}
use Rattle.bbm_tree_index.specs.IndexChanges.{KeepsOnly}
use Rattle.bbm_tree_index.proofs.Departures.{below_leaves}
use Rattle.bbm_tree_index.proofs.Sweeping.{node_swept}

kept_is : (keeps : Node → Bool) (o : Option Node) → (if leaves_node keeps o then None else o) ≡ kept keeps o
kept_is keeps None = refl
kept_is keeps (Some n) = grind arith

-- a page that leaves is in a tree
leaver_out : (roles : ℕ → Role) (heading : Heading) (p : ℕ) (role : Role) (keeps : Node → Bool)
    → leaves_node keeps (node_with roles heading p role) ≡ true → (is_fresh_role role ≡ false) × (is_null_role role ≡ false)
leaver_out roles heading p Fresh keeps e = absurd (false≢true e)
leaver_out roles heading p Null keeps e = absurd (false≢true e)
leaver_out roles heading p _ keeps e = (refl, refl)

module _ (old : TreeIndex) (map : PlaceMap) (leaving : Leaving) where
  abbrev pub leaver : ℕ → Bool
  leaver p = leaves_node (stays map leaving) (node_by (role_in old) (heading_of old) p)

  module _ (new : TreeIndex) (heading : heading_of new ≡ heading_of old)
      (roles : (p : ℕ) → role_in new p ≡ (if leaver p then Gone else role_in old p)) where
    node_left : (p : ℕ) → node_in new p ≡ kept (stays map leaving) (node_in old p)
    unfolding node_in
    node_left p = ap (λ h. node_by (role_in new) h p) heading
        ∙ node_swept (role_in old) (role_in new) (heading_of old) (is_sound old).roles leaver roles
        (below_leaves map (role_in old) (heading_of old) (is_sound old).roles leaving) p
        ∙ kept_is (stays map leaving) (node_in old p)

    -- what is asked of a role alone, of none that leaves nor of one that is gone
    role_left : (test : Role → Bool) → test Gone ≡ false → ((p : ℕ) → leaver p ≡ true → test (role_in old p) ≡ false)
        → (p : ℕ) → test (role_in new p) ≡ test (role_in old p)
    role_left test gone none p = ap test (roles p) ∙ by (leaver p) (none p)
      where
        by : (b : Bool) → (b ≡ true → test (role_in old p) ≡ false) → test (if b then Gone else role_in old p) ≡ test (role_in old p)
        by true out = gone ∙ sym (out refl)
        by false out = refl

    out_at : (p : ℕ) → leaver p ≡ true → (is_fresh_role (role_in old p) ≡ false) × (is_null_role (role_in old p) ≡ false)
    out_at p = leaver_out (role_in old) (heading_of old) p (role_in old p) (stays map leaving)

    pub trees_left : KeepsOnly (stays map leaving) old new
    unfolding fresh_in null_in
    trees_left = record {
      node = node_left;
      fresh = role_left is_fresh_role refl (λ p e. (out_at p e).0);
      null = role_left is_null_role refl (λ p e. (out_at p e).1);
    }
