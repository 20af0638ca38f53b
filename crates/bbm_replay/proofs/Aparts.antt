-- The pages of trees, the fresh pages and the null pages stay apart, and the first two tracked.
use Rattle.bbm_replay.proofs.Common.{View, kept, Apart}
use Rattle.bbm_rules.proofs.Common.{◌≡◌, ℕ, Bool, true, false, not, ◌&&◌, ◌==◌, Option, Some, None, is_none, sym, ◌∙◌}
use Rattle.bbm_rules.proofs.Common.{ap, subst, ◌⊎◌, inl, inr, and_parts, or_cases, or_from, or_left, or_right, eqb-true}
use Rattle.bbm_rules.proofs.Common.{ne_eqb, not-true, arith, Node}
use Rattle.bbm_replay.proofs.Moves.{Begins, Grown, Leaves, Nullifies, SameNodes, SamePages}

-- a page with a node isn't one without
pub apart : (node : ℕ → Option Node) (p q : ℕ) (n : Node) → node p ≡ Some n → node q ≡ None
    → ((p == q) ≡ false) × ((q == p) ≡ false)
apart node p q n is none = (ne_eqb p q other, ne_eqb q p (λ e. other (sym e)))
  where
    other : p ≡ q → ⊥
    other e = let both : Some n ≡ None = sym is ∙ ap node e ∙ none in absurd cc

-- what is kept was there, and passes the test
pub was_there : (keeps : Node → Bool) (o : Option Node) (n : Node) → kept keeps o ≡ Some n → (keeps n ≡ true) × (o ≡ Some n)
was_there keeps o n k = grind arith

-- each page of a tree was one, at the same node, or fresh; and each fresh page was fresh
apart_among : (old new : View) → Apart old → ((p : ℕ) → new.fresh p ≡ true → (old.fresh p ≡ true) × (new.node p ≡ None))
    → ((p : ℕ) (n : Node) → new.node p ≡ Some n → (old.node p ≡ Some n) ⊎ (old.fresh p ≡ true))
    → ((p : ℕ) → new.null p ≡ old.null p) → ((p : ℕ) → new.tracked p ≡ old.tracked p) → Apart new
apart_among old new a was node null tracked = record {
  fresh_outside = λ p k. (was p k).1;
  fresh_not_null = λ p k. null p ∙ a.fresh_not_null p (was p k).0;
  fresh_tracked = λ p k. tracked p ∙ a.fresh_tracked p (was p k).0;
  node_not_null = λ p n k. null p
      ∙ elim (node p n k) [ inl is ↦ a.node_not_null p n is | inr came ↦ a.fresh_not_null p came ];
  node_tracked = λ p n k. tracked p
      ∙ elim (node p n k) [ inl is ↦ a.node_tracked p n is | inr came ↦ a.fresh_tracked p came ];
}

pub apart_same : (old new : View) → Apart old → SameNodes old new → SamePages old new
    → ((p : ℕ) → new.tracked p ≡ old.tracked p) → Apart new
apart_same old new a nodes pages tracked = apart_among old new a
    (λ p k. let was = sym (pages.fresh p) ∙ k in (was, nodes p ∙ a.fresh_outside p was))
    (λ p n k. inl (sym (nodes p) ∙ k)) pages.null tracked

pub apart_grown : (old new : View) → Apart old → Grown old new
    → ((p : ℕ) → new.fresh p ≡ (old.fresh p && is_none (new.node p))) → ((p : ℕ) → new.null p ≡ old.null p)
    → ((p : ℕ) → new.tracked p ≡ old.tracked p) → Apart new
apart_grown old new a g fresh null tracked = apart_among old new a
    (λ p k. let both = and_parts (old.fresh p) (is_none (new.node p)) (sym (fresh p) ∙ k) in
    (both.0, empty (new.node p) both.1)) g.comes null tracked
  where
    empty : (o : Option Node) → is_none o ≡ true → o ≡ None
    empty o k = grind arith

pub apart_leaves : (old new : View) (keeps : Node → Bool) → Apart old → Leaves old new keeps → Apart new
apart_leaves old new keeps a move = apart_among old new a
    (λ p k. let was = sym (move.roles.fresh p) ∙ k in
    (was, move.node p ∙ ap (λ (o : Option Node). kept keeps o) (a.fresh_outside p was)))
    (λ p n k. inl (was_there keeps (old.node p) n (sym (move.node p) ∙ k)).1) move.roles.null move.tracking.tracked

pub apart_begins : (old new : View) (page : ℕ) → Apart old → Begins old new page → Apart new
apart_begins old new page a move = record {
  fresh_outside = λ p k. move.nodes p ∙ elim (was p k) [
    | inl e ↦ subst (λ (x : ℕ). old.node x ≡ None) (sym (eqb-true p page e)) move.outside
    | inr f ↦ a.fresh_outside p f
  ];
  fresh_not_null = λ p k. move.null p ∙ elim (was p k) [
    | inl e ↦ subst (λ (x : ℕ). old.null x ≡ false) (sym (eqb-true p page e)) move.not_null
    | inr f ↦ a.fresh_not_null p f
  ];
  fresh_tracked = λ p k. move.tracked p ∙ elim (was p k) [
    | inl e ↦ or_left (p == page) (old.tracked p) e
    | inr f ↦ or_right (p == page) (old.tracked p) (a.fresh_tracked p f)
  ];
  node_not_null = λ p n k. move.null p ∙ a.node_not_null p n (sym (move.nodes p) ∙ k);
  node_tracked = λ p n k. move.tracked p
      ∙ or_right (p == page) (old.tracked p) (a.node_tracked p n (sym (move.nodes p) ∙ k));
}
  where
    was : (p : ℕ) → new.fresh p ≡ true → ((p == page) ≡ true) ⊎ (old.fresh p ≡ true)
    was p k = or_cases (p == page) (old.fresh p) (sym (move.fresh p) ∙ k)

pub apart_nullifies : (old new : View) (page : ℕ) → Apart old → Nullifies old new page → Apart new
apart_nullifies old new page a move = record {
  fresh_outside = λ p k. move.nodes p ∙ a.fresh_outside p (was p k).0;
  fresh_not_null = λ p k. move.null p
      ∙ or_from (p == page) (old.null p) (not-true (p == page) (was p k).1) (a.fresh_not_null p (was p k).0);
  fresh_tracked = λ p k. move.tracking.tracked p ∙ a.fresh_tracked p (was p k).0;
  node_not_null = λ p n k.
      let is : old.node p ≡ Some n = sym (move.nodes p) ∙ k in
      move.null p ∙ or_from (p == page) (old.null p)
      (apart old.node p page n is (a.fresh_outside page move.was_fresh)).0 (a.node_not_null p n is);
  node_tracked = λ p n k. move.tracking.tracked p ∙ a.node_tracked p n (sym (move.nodes p) ∙ k);
}
  where
    was : (p : ℕ) → new.fresh p ≡ true → (old.fresh p ≡ true) × (not (p == page) ≡ true)
    was p k = and_parts (old.fresh p) (not (p == page)) (sym (move.fresh p) ∙ k)
