-- The claims of places that are due at a DSB are those that are found, place by place and PE by PE.
use Rattle.bbm_certify.proofs.Common.{Known, IsCleansed, IsDue, IsDueAt, IsUncleansed, IsLeastClaim}
use Rattle.bbm_rules.proofs.Common.{◌≡◌, ℕ, ◌<◌, true, List, [], ◌∷◌, Option, Some, None, Contains, refl, sym, keeps}
use Rattle.bbm_rules.proofs.Common.{◌∙◌, ap, subst, inl, inr, true≢false, Claim, Place, Two, Taken, Patterns, cleansed}
use Rattle.bbm_rules.proofs.Common.{note, noted, ValidWrite, last_valid, later, Noted, Cleansed, page_of, Barrier}
use Rattle.bbm_rules.proofs.Common.{Heading, Event, Dsb, Node, node_of, none-some, same_Some, false_from_ne_true}
use Rattle.bbm_rules.specs.Tree.{tree}
use Rattle.bbm_histories.proofs.Induction.{kept_before}

-- the write before one more event
pub record Was (n : Noted) (found : Option ValidWrite) (w : ValidWrite) : Type 0 where
  pub before : ValidWrite
  pub is : found ≡ Some before
  pub since_is : n ∷ before.since ≡ w.since

pub was : (n : Noted) (found : Option ValidWrite) (w : ValidWrite) → later n found ≡ Some w → Was n found w
was n None w e = absurd (none-some w e)
was n (Some v) w e =
    let same : record { value = v.value; since = n ∷ v.since } ≡ w = cc in
    record { before = v; is = refl; since_is = ap (λ (u : ValidWrite). u.since) same }

module _ (heading : Heading) (known : Known heading) (h : List Event) (q : ℕ) (dsb : Barrier)
    (kept : keeps heading Patterns (Dsb q dsb ∷ h) ≡ true) where
  abbrev before : List Noted
  before = noted heading Patterns h

  abbrev newest : Noted
  newest = note heading Patterns before (Dsb q dsb)

  abbrev after : List Noted
  after = noted heading Patterns (Dsb q dsb ∷ h)

  abbrev Found : ℕ → Claim → Type 0
  Found a c = IsDueAt heading Patterns after newest before a c

  was_node : (n : Node) → Contains (tree heading Patterns after) n → Contains (tree heading Patterns before) n
  was_node n i = ((known.tree_step.dsb h q dsb kept n).0 i).0

  -- ---- what is found is due

  module _ (a p : ℕ) (n : Node) (w : ValidWrite) (below : p < heading.pes)
      (in_after : Contains (tree heading Patterns after) n) (inside : page_of a ≡ n.page)
      (is : last_valid n.kind n.level a before ≡ Some w) (unclean : IsUncleansed heading a p w.since) where
    not_before : (v : ValidWrite) → IsCleansed heading before a p v → ⊥
    not_before v k =
        let same_node : k.node ≡ n = known.one_node.at_most_one h (kept_before heading Patterns (Dsb q dsb ∷ []) h kept)
        k.node n k.in_tree (was_node n in_after) (sym k.inside ∙ inside) in
        let same : v ≡ w = same_Some v w (sym k.is_last
        ∙ (ap (λ (m : Node). last_valid m.kind m.level a before) same_node ∙ is)) in
        true≢false (sym k.is_clean ∙ (ap (λ (x : ValidWrite). cleansed heading Patterns a p x.since) same ∙ unclean))

    abbrev now : ValidWrite
    now = record { value = w.value; since = newest ∷ w.since }

    cleansed_now : Cleansed heading Patterns a p (newest ∷ w.since) → IsCleansed heading after a p now
    cleansed_now k = record {
      node = n;
      in_tree = in_after;
      inside = inside;
      is_last = ap (later newest) is;
      is_clean = (known.cleansed Patterns).complete a p (newest ∷ w.since) k;
    }

    pub due_now : (c : Claim) → IsLeastClaim heading a p (newest ∷ w.since) c → IsDue heading h (Dsb q dsb) c
    due_now (Place r x b t d) k =
        let same : Place p a b t d ≡ Place r x b t d = cc in
        subst (λ (c : Claim). IsDue heading h (Dsb q dsb) c) same
        (below, (now, cleansed_now (inl k.2.holds.0), k.2), not_before)
    due_now (Two r x b t1 d1 t2 d2) k =
        let same : Two p a b t1 d1 t2 d2 ≡ Two r x b t1 d1 t2 d2 = cc in
        subst (λ (c : Claim). IsDue heading h (Dsb q dsb) c) same
        (below, (now, cleansed_now (inr k.3.holds.0), k.2, k.3), not_before)
    due_now (Taken r tag t d) k = absurd k

  pub found_due : (a : ℕ) (c : Claim) → Found a c → IsDue heading h (Dsb q dsb) c
  found_due a c f =
      let n : Node = f.0 in
      let inner = f.2 in
      let there = known.tree.taken after (page_of a) n f.1 in
      due_now a inner.2.0 n inner.0 inner.2.1 there.0 (sym there.1) inner.1 inner.2.2 c inner.2.3

  -- ---- what is due is found

  module _ (a p : ℕ) (w : ValidWrite) (k : IsCleansed heading after a p w)
      (not_yet : (v : ValidWrite) → IsCleansed heading before a p v → ⊥) where
    pub the_write : Was newest (last_valid k.node.kind k.node.level a before) w
    the_write = was newest (last_valid k.node.kind k.node.level a before) w k.is_last

    pub unclean : IsUncleansed heading a p the_write.before.since
    unclean = false_from_ne_true (cleansed heading Patterns a p the_write.before.since) (λ e. not_yet the_write.before (record {
      node = k.node;
      in_tree = was_node k.node k.in_tree;
      inside = k.inside;
      is_last = the_write.is;
      is_clean = e;
    }))

    pub due_found : (c : Claim) → p < heading.pes → IsLeastClaim heading a p w.since c → Found a c
    due_found c below least = (
      k.node,
      ap (λ (page : ℕ). node_of heading Patterns after page) k.inside
          ∙ known.one_node.the_first (Dsb q dsb ∷ h) kept k.node k.in_tree,
      (
        the_write.before,
        the_write.is,
        (
          p,
          below,
          unclean,
          subst (λ (ns : List Noted). IsLeastClaim heading a p ns c) (sym the_write.since_is) least,
        ),
      ),
    )
