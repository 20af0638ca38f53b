-- The root of a walk wasn't given up since, where the page at which the walk ended is in a tree, and no init of the page came
-- since.
use Rattle.bbm_counterrun.proofs.Common.{append_assoc, append-nil, Patterns, Entry, Fine}
use Rattle.bbm_rules.proofs.Common.{◌≡◌, ℕ, ◌≤◌, arith, Bool, true, false, ◌&&◌, nat_le, List, [], ◌∷◌, ◌++◌, length, Contains}
use Rattle.bbm_rules.proofs.Common.{refl, sym, ◌∙◌, ap, subst, inl, inr, true≢false, and_parts, leb-true, keeps, noted, page_of}
use Rattle.bbm_rules.proofs.Common.{Barrier, Heading, Event, Dsb, Unroot, gives_up, Node, in_tree, contains_head}
use Rattle.bbm_rules.proofs.SearchLemmas.{Found, some_found}
use Rattle.bbm_rules.proofs.TagEndsLaw.{gives_up_is}
use Rattle.bbm_rules.specs.Roots.{given_up_since}
use Rattle.bbm_rules.specs.Tree.{tree}
use Rattle.bbm_histories.proofs.Induction.{Between, between_splits, kept_before}
use Rattle.bbm_histories.specs.PositionLaws.{TreeAfter}
use Rattle.bbm_histories.specs.ValueChanges.{NoInit}
use Rattle.bbm_tlb_machine.specs.Entry.{is_given_up}
use Rattle.bbm_tlb_machine.specs.Invariant.{Placed}
use Rattle.bbm_tlb_machine.specs.KnownOfMachine.{Known}
use Rattle.bbm_tlb_machine.proofs.GivenUp.{not_yet}

module _ (heading : Heading) (k : Known heading Patterns) where
  -- a page of a tree that wasn't initialised since was in it at each moment
  before_it : (newer base : List Event) (y : Event) (n : Node) → keeps heading Patterns (y ∷ (newer ++ base)) ≡ true
      → in_tree heading Patterns (noted heading Patterns base) n.page ≡ true → NoInit n.page newer
      → Contains (tree heading Patterns (noted heading Patterns (y ∷ (newer ++ base)))) n
      → Contains (tree heading Patterns (noted heading Patterns (newer ++ base))) n
  before_it newer base y n kept there none now =
      elim (k.one_position.gained (newer ++ base) y kept n now) [
        | inl c ↦ c
        | inr f ↦ absurd (true≢false (sym f.1 ∙ k.one_position.unfresh newer base n.page there none))
      ]

  back : (newer base : List Event) (n : Node) → keeps heading Patterns (newer ++ base) ≡ true
      → in_tree heading Patterns (noted heading Patterns base) n.page ≡ true → NoInit n.page newer
      → Contains (tree heading Patterns (noted heading Patterns (newer ++ base))) n → (after mid : List Event) → newer ≡ after ++ mid
      → Contains (tree heading Patterns (noted heading Patterns (mid ++ base))) n
  back newer base n kept there none now [] mid e =
      subst (λ (es : List Event). Contains (tree heading Patterns (noted heading Patterns (es ++ base))) n) e now
  back [] base n kept there none now (x ∷ after) mid e = cc
  back (y ∷ newer) base n kept there none now (x ∷ after) mid e =
      let rest : newer ≡ after ++ mid = cc in
      let fewer : NoInit n.page newer = λ q a b s. none q (y ∷ a) b (ap (λ (es : List Event). y ∷ es) s) in
      back newer base n (kept_before heading Patterns (y ∷ []) (newer ++ base) kept) there fewer
      (before_it newer base y n kept there fewer now) after mid rest

  module _ (trees : TreeAfter heading Patterns) (x : Entry) (h newer base : List Event) (split : h ≡ newer ++ base)
      (kept : keeps heading Patterns h ≡ true) (f : Fine heading Patterns base x) (made : x.since ≡ length base) (n : Node)
      (now : Contains (tree heading Patterns (noted heading Patterns h)) n) (page : n.page ≡ page_of x.last.place) (none : NoInit n.page newer) where
    kept_split : keeps heading Patterns (newer ++ base) ≡ true
    kept_split = subst (λ (es : List Event). keeps heading Patterns es ≡ true) split kept

    kept_base : keeps heading Patterns base ≡ true
    kept_base = kept_before heading Patterns newer base kept_split

    not_before : is_given_up heading base x ≡ false
    not_before = not_yet heading.words.unflushed x.since x.root base (omega (arith, made))

    its : Placed heading Patterns base x.root x.last
    its = (f.rooted not_before).placed x.last (contains_head x.above x.last)

    same_page : its.node.page ≡ n.page
    same_page = sym its.is_at.inside ∙ sym page

    there : in_tree heading Patterns (noted heading Patterns base) n.page ≡ true
    there =
        subst (λ (q : ℕ). in_tree heading Patterns (noted heading Patterns base) q ≡ true) same_page
        (k.tree.has (noted heading Patterns base) its.node its.in_tree)

    at_moment : (after mid : List Event) → newer ≡ after ++ mid
        → Contains (tree heading Patterns (noted heading Patterns (mid ++ base))) n
    at_moment =
        back newer base n kept_split there none
        (subst (λ (es : List Event). Contains (tree heading Patterns (noted heading Patterns es)) n) split now)

    its_root : n.root ≡ x.root
    its_root =
        let same : its.node ≡ n
        = k.one_node.at_most_one base kept_base its.node n its.in_tree (at_moment newer [] (sym (append-nil newer))) same_page in
        ap (λ (m : Node). m.root) (sym same) ∙ its.is_at.root

    never : given_up_since x.since x.root h ≡ true → ⊥
    never up =
        let found : Found (λ e before. nat_le x.since (length before) && gives_up x.root e) h
        = some_found (λ e before. nat_le x.since (length before) && gives_up x.root e) h up in
        let both = and_parts (nat_le x.since (length found.older)) (gives_up x.root found.item) found.passed in
        let late : x.since ≤ length found.older = leb-true x.since (length found.older) both.0 in
        let is = gives_up_is x.root found.item both.1 in
        let b : Between (found.newer ++ found.item ∷ []) found.older newer base
        = between_splits (found.newer ++ found.item ∷ []) found.older newer base
        (append_assoc found.newer (found.item ∷ []) found.older ∙ (sym found.split ∙ split)) (omega (arith, late, made)) in
        let start : newer ≡ found.newer ++ found.item ∷ b.between
        = b.start ∙ append_assoc found.newer (found.item ∷ []) b.between in
        let in_then : Contains (tree heading Patterns (noted heading Patterns (Unroot is.0 x.root ∷ (b.between ++ base)))) n
        = subst (λ (e : Event). Contains (tree heading Patterns (noted heading Patterns (e ∷ (b.between ++ base)))) n) is.1
        (at_moment found.newer (found.item ∷ b.between) start) in
        let kept_item : keeps heading Patterns (found.item ∷ (b.between ++ base)) ≡ true
        = kept_before heading Patterns found.newer (found.item ∷ (b.between ++ base))
        (subst (λ (es : List Event). keeps heading Patterns es ≡ true)
        (ap (λ (es : List Event). es ++ base) start ∙ append_assoc found.newer (found.item ∷ b.between) base) kept_split) in
        let kept_then : keeps heading Patterns (Unroot is.0 x.root ∷ (b.between ++ base)) ≡ true
        = subst (λ (e : Event). keeps heading Patterns (e ∷ (b.between ++ base)) ≡ true) is.1 kept_item in
        let step = (trees.step (b.between ++ base) (Unroot is.0 x.root) k.proper kept_then (no_barrier is.0 x.root) n).0 in_then in
        step.1 its_root
      where
        no_barrier : (q root : ℕ) (r : ℕ) (dsb : Barrier) → Unroot q root ≡ Dsb r dsb → ⊥
        no_barrier q root r dsb e = cc

    pub stays_up : is_given_up heading h x ≡ false
    stays_up = by (is_given_up heading h x) refl
      where
        by : (c : Bool) → is_given_up heading h x ≡ c → is_given_up heading h x ≡ false
        by false e = e
        by true e = absurd (never (and_parts heading.words.unflushed (given_up_since x.since x.root h) e).1)
