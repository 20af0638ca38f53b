-- Nodes and soundness after pages were hung: each page that is reached got the role of its node, the others kept theirs.
use Rattle.bbm_tree_index.proofs.Common.{IndexMap, PlaceMap, Heading, Sound, hangs_at, is_sound, is_fresh_role, node_by}
use Rattle.bbm_tree_index.proofs.Common.{is_null_role, node_with, spot_with, role_as, spot_as, Mark, TreeIndex, Attach}
use Rattle.bbm_tree_index.proofs.Common.{Reached, Role, RootPage, Hangs, Gone, Null, starts_of, value_at}
use Rattle.bbm_rules.proofs.Common.{arith, ◌≡◌, ℕ, zero, suc, ◌⊎◌, ◌&&◌, true, false, List, [], ◌∷◌, Option, Some, None}
use Rattle.bbm_rules.proofs.Common.{is_none, inl, inr, refl, sym, ap, ◌∙◌, subst, none-some, same_Some, Kind, page_of}
use Rattle.bbm_rules.proofs.Common.{Above, Node, region_start, and-false}
use Rattle.std.specs.Option.{IsSomeAnd}
use Rattle.bbm_tree_index.specs.Index.{fresh_in, heading_of, role_in}
use Rattle.bbm_tree_index.specs.SoundRoles.{Below}
use Rattle.bbm_tree_index.proofs.Begins.{Begins, starts_begin}
use Rattle.bbm_tree_index.proofs.Climbing.{fresh_part, node_kept, out_part, tree_part}
use Rattle.bbm_tree_index.proofs.Levels.{above_of, start_is}
use Rattle.bbm_tree_index.proofs.Places.{at_page}
use Rattle.bbm_tree_index.proofs.Reaching.{Reach, Ready, reach_fresh, reach_unique}
use Rattle.bbm_tree_index.proofs.Surveying.{IsHung, Stays, reach_fits, reach_plain}
use Rattle.bbm_tree_index.proofs.Sweeping.{node_hang}

out_node : (roles : ℕ → Role) (heading : Heading) (page : ℕ) (role : Role) → tree_part role ≡ Gone
    → node_with roles heading page role ≡ None
out_node roles heading page (RootPage kind first part) e = cc
out_node roles heading page (Hangs parent kind level base first) e = cc
out_node roles heading page _ e = refl

fresh_not_null : (role : Role) → is_fresh_role role ≡ true → is_null_role role ≡ false
fresh_not_null Null e = cc
fresh_not_null _ e = refl

hung_neither : (m : Node) (above : List Above) → (is_fresh_role (role_as m above) ≡ false) × (is_null_role (role_as m above) ≡ false)
hung_neither m [] = (refl, refl)
hung_neither m (a ∷ rest) = (refl, refl)

-- the page of a root has its node by its role
root_node : (roles : ℕ → Role) (heading : Heading) (m : Node) → m.above ≡ []
    → spot_with heading (role_as m []) ≡ Some (spot_as m) → node_with roles heading m.page (role_as m []) ≡ Some m
root_node roles heading m none e = let same = same_Some _ _ e in λ i. Some (record {
  page = m.page;
  kind = m.kind;
  level = (same i).level;
  root = m.root;
  base = (same i).base;
  above = sym none i;
})

module _ {S : Type 0} {tables : List (IndexMap ℕ Mark S)} {index : TreeIndex} {map : PlaceMap} {at : Attach}
    (ready : Ready tables index map at)
    (roles' : ℕ → Role) (hung : (p : ℕ) → IsHung ready roles' p ⊎ Stays ready roles' p) where
  abbrev roles : ℕ → Role
  roles = role_in index

  abbrev heading : Heading
  heading = heading_of index

  abbrev Reached_at : Node → Type 0
  Reached_at = Reach index map at

  out_at : (p : ℕ) → IsHung ready roles' p → tree_part (roles p) ≡ Gone
  unfolding fresh_in
  out_at p h = fresh_part (roles p) (ap (fresh_in index) (sym h.2) ∙ reach_fresh ready h.0 h.1)

  -- a page of a tree keeps its role, and its node
  stays : (p : ℕ) (n : Node) → node_by roles heading p ≡ Some n → roles' p ≡ roles p
  stays p n e = elim (hung p) [ inl h ↦ absurd (none-some n (sym (out_node roles heading p (roles p) (out_at p h)) ∙ e)) | inr h ↦ h.0 ]

  pub node_in_tree : (p : ℕ) (n : Node) → node_by roles heading p ≡ Some n → node_by roles' heading p ≡ Some n
  node_in_tree p n e = node_kept roles roles' (λ q. (m : Node) × (node_by roles heading q ≡ Some m))
      (λ q k. ap tree_part (stays q k.0 k.1))
      (λ q parent level base first kind r k. let found = hangs_at roles heading (is_sound index).roles q parent level base first kind r in
      (found.0, found.1)) heading p (n, e) ∙ e

  -- a page that is reached has the role of its node
  reached_role : (m : Node) → Reached_at m → roles' m.page ≡ role_as m m.above
  reached_role m r =
      elim (hung m.page) [
        | inl h ↦ h.3 ∙ ap (λ x. role_as x x.above) (reach_unique ready h.0 m h.1 r h.2)
        | inr h ↦ absurd (h.1 m r refl)
      ]

  begun_node : (m : Node) → Reached_at m → Begins roles' heading m → node_by roles' heading m.page ≡ Some m
  begun_node m r (inl none) =
      ap (node_with roles' heading m.page) (reached_role m r ∙ ap (role_as m) none)
      ∙ root_node roles' heading m none (ap (λ a. spot_with heading (role_as m a)) (sym none) ∙ reach_plain ready m r)
  begun_node m r (inr (n, place, at, below)) =
      node_hang roles' heading m.page place (suc n.level) (region_start n place) n.root n.kind n
      (reached_role m r ∙ ap (λ x. role_as x x.above) below) at
      (record { same_kind = refl; deeper = refl; start = refl; same_root = refl })
      ∙ ap (λ x. Some x) (sym below)

  begun : (s : Node) → Begins roles heading s → Begins roles' heading s
  begun s (inl none) = inl none
  begun s (inr (n, place, at, below)) = inr (n, place, node_in_tree (page_of place) n at, below)

  begins_at : (k : ℕ) (m : Node) → Reached (fresh_in index) (value_at map) (starts_of index at) k m → Begins roles' heading m
  begins_at zero m r = subst (Begins roles' heading) (start_is (fresh_in index) (value_at map) (starts_of index at) m r)
      (begun r.start (starts_begin index at ready.may r.start r.is_start))
  begins_at (suc k) m r = let a = above_of (fresh_in index) (value_at map) (starts_of index at) k m r in
      inr (a.0, a.2, ap (node_by roles' heading) (at_page a.0.page a.2 a.3.inside) ∙ begun_node a.0 (k, a.1) (begins_at k a.0 a.1), a.3.below)

  pub node_reached : (m : Node) → Reached_at m → node_by roles' heading m.page ≡ Some m
  node_reached m r = begun_node m r (begins_at r.0 m r.1)

  at_hung : (p : ℕ) (h : IsHung ready roles' p) → node_by roles' heading p ≡ Some h.0
  at_hung p h = subst (λ q. node_by roles' heading q ≡ Some h.0) h.2 (node_reached h.0 h.1)

  -- each node is an old one, or that of a page that is reached
  pub node_back : (p : ℕ) (m : Node) → node_by roles' heading p ≡ Some m
      → (node_by roles heading p ≡ Some m) ⊎ ((m.page ≡ p) × Reached_at m)
  node_back p m e =
      elim (hung p) [
        | inl h ↦ let same : h.0 ≡ m = same_Some h.0 m (sym (at_hung p h) ∙ e) in
            inr (ap (λ x. x.page) (sym same) ∙ h.2, subst Reached_at same h.1)
        | inr h ↦ inl (old h (node_by roles heading p) refl)
      ]
    where
      old : Stays ready roles' p → (o : Option Node) → node_by roles heading p ≡ o → node_by roles heading p ≡ Some m
      old h None f = absurd (none-some m (sym (ap (node_with roles' heading p) h.0
          ∙ out_node roles' heading p (roles p) (out_part roles heading p (roles p) f)) ∙ e))
      old h (Some n) f = f ∙ sym (node_in_tree p n f) ∙ e

  -- what is kept of a hanging page agrees with the page above
  HangGood : Role → Type 0
  HangGood (Hangs parent kind level base first) =
      IsSomeAnd (node_by roles' heading (page_of parent)) (Below parent kind level base first)
  HangGood _ = Unit {0}

  good_at : (m : Node) → Begins roles' heading m → HangGood (role_as m m.above)
  unfolding HangGood
  good_at m (inl none) = subst (λ a. HangGood (role_as m a)) (sym none) tt
  good_at m (inr (n, place, at, below)) = subst (λ x. HangGood (role_as x x.above)) (sym below)
      (subst (λ o. IsSomeAnd o (Below place n.kind (suc n.level) (region_start n place) n.root)) (sym at)
      (record { same_kind = refl; deeper = refl; start = refl; same_root = refl }))

  hangs : (p parent level base first : ℕ) (kind : Kind) → roles' p ≡ Hangs parent kind level base first
      → IsSomeAnd (node_by roles' heading (page_of parent)) (Below parent kind level base first)
  unfolding HangGood
  hangs p parent level base first kind e =
      elim (hung p) [
        | inl h ↦ subst HangGood (sym h.3 ∙ e) (good_at h.0 (begins_at h.1.0 h.0 h.1.1))
        | inr h ↦ let found = hangs_at roles heading (is_sound index).roles p parent level base first kind (sym h.0 ∙ e) in
            subst (λ o. IsSomeAnd o (Below parent kind level base first)) (sym (node_in_tree (page_of parent) found.0 found.1)) found.2
      ]

  pub sound_hung : Sound roles' heading
  sound_hung = record {
    hangs = hangs;
    shallow = λ p n e. elim (node_back p n e) [ inl f ↦ (is_sound index).roles.shallow p n f | inr r ↦ (reach_fits ready n r.1).shallow ];
    within = λ p n e. elim (node_back p n e) [ inl f ↦ (is_sound index).roles.within p n f | inr r ↦ (reach_fits ready n r.1).within ];
  }

  pub fresh_hung : (p : ℕ) → is_fresh_role (roles' p) ≡ (is_fresh_role (roles p) && is_none (node_by roles' heading p))
  fresh_hung p =
      elim (hung p) [
        | inl h ↦ ap is_fresh_role h.3 ∙ (hung_neither h.0 h.0.above).0
            ∙ sym (ap (λ o. is_fresh_role (roles p) && is_none o) (at_hung p h) ∙ and-false (is_fresh_role (roles p)))
        | inr h ↦ let none : is_fresh_role (roles p) ≡ true → node_by roles' heading p ≡ None
            = λ e. ap (node_with roles' heading p) h.0 ∙ out_node roles' heading p (roles p) (fresh_part (roles p) e) in
            grind (arith, ap is_fresh_role h.0, none)
      ]

  pub null_hung : (p : ℕ) → is_null_role (roles' p) ≡ is_null_role (roles p)
  unfolding fresh_in
  null_hung p =
      elim (hung p) [
        | inl h ↦ ap is_null_role h.3 ∙ (hung_neither h.0 h.0.above).1
            ∙ sym (fresh_not_null (roles p) (ap (fresh_in index) (sym h.2) ∙ reach_fresh ready h.0 h.1))
        | inr h ↦ ap is_null_role h.0
      ]
