-- Pages that are known, and which of them are free.
use Rattle.bbm_unmapped.proofs.Common.{Outputs, Unmapped, get, in_outputs, may_map, number_in}
use Rattle.bbm_unmapped.specs.Unmapped.{free_in, known_in, pages_in}
use Rattle.bbm_rules.proofs.Common.{◌≡◌, ℕ, ◌<◌, ◌≤◌, ◌==◌, Bool, true, false, not, ◌&&◌, List, Option, Some, None, is_some}
use Rattle.bbm_rules.proofs.Common.{nat_eq, length, refl, sym, ap, ◌∙◌, slice_get, slice_get_within, option_map_or, arith}
use Rattle.bbm_rules.proofs.Common.{◌+◌, ◌%◌, inl, inr, eq-eqb, eqb-true, and-false, and-true, if◌then◌else◌, ltb-false, ltb-true}
use Rattle.bbm_rules.proofs.Common.{nat_lt, same_Some, true≢false}
use Rattle.std.proofs.lemmas.Bool.{cases_Bool}
use Rattle.bbm_page_map.proofs.Numbering.{number_is}
use Rattle.bbm_tree_index.proofs.Numbered.{no_value, same_by_keys}
use Rattle.bbm_tree_index.proofs.Wrongs.{key_at}

-- the same pages are known
pub known_same : (old new : Unmapped) → pages_in new ≡ pages_in old → (p : ℕ) → known_in new p ≡ known_in old p
unfolding known_in pages_in
known_same old new same p = (same_by_keys old.pages new.pages same).known p

-- a known page has a number
pub known_index : (unmapped : Unmapped) (p : ℕ) → known_in unmapped p ≡ true → (k : ℕ) × (slice_get (pages_in unmapped) k ≡ Some p)
unfolding known_in pages_in
known_index unmapped p e = let k = key_at unmapped.pages p e in (k.0, k.2)

-- no other page is free
pub unknown_free : (unmapped : Unmapped) (p : ℕ) → known_in unmapped p ≡ false → free_in unmapped p ≡ false
unfolding known_in free_in
unknown_free unmapped p e = by _ (get nat_eq unmapped.pages p) e
  where
    by : {V : Type 0} (test : V → Bool) (o : Option V) → is_some o ≡ false → option_map_or test o false ≡ false
    by test None e = refl
    by test (Some v) e = cc

pub numberless_free : (unmapped : Unmapped) (p : ℕ) → number_in (pages_in unmapped) p ≡ None → free_in unmapped p ≡ false
unfolding pages_in free_in
numberless_free unmapped p none = ap (λ o. option_map_or (λ l. l.free) o false) (no_value unmapped.pages.entries p none)

-- a page that a map gives a number
pub numbered_at : (ps qs : List ℕ) (page n m : ℕ) (o : Option ℕ) → ps ≡ qs → o ≡ number_in ps page → o ≡ Some n → m ≡ n
    → slice_get qs m ≡ Some page
numbered_at ps qs page n m o same number is at = number_is qs page m
    (sym (ap (λ (xs : List ℕ). number_in xs page) same) ∙ sym number ∙ is ∙ ap (λ (k : ℕ). Some k) (sym at))

pub numbered_none : (ps qs : List ℕ) (page : ℕ) (o : Option ℕ) → ps ≡ qs → o ≡ number_in ps page → o ≡ None → number_in qs page ≡ None
numbered_none ps qs page o same number is = sym (ap (λ (xs : List ℕ). number_in xs page) same) ∙ sym number ∙ is

-- a page that isn't free stays so
pub off_stays : (unmapped : Unmapped) (page : ℕ) → free_in unmapped page ≡ false
    → (p : ℕ) → free_in unmapped p ≡ (free_in unmapped p && not (p == page))
off_stays unmapped page off p = elim (cases_Bool (p == page)) [
  | inl t ↦ ap (free_in unmapped) (eqb-true p page t) ∙ off
      ∙ sym (ap (λ (b : Bool). free_in unmapped p && not b) t ∙ and-false (free_in unmapped p))
  | inr f ↦ sym (ap (λ (b : Bool). free_in unmapped p && not b) f ∙ and-true (free_in unmapped p))
]

-- outputs with one page alone that isn't free
pub only_off : (unmapped : Unmapped) (outputs : Outputs) (only : ℕ)
    → ((page : ℕ) → page % 4096 ≡ 0 → in_outputs outputs page ≡ (page == only)) → free_in unmapped only ≡ false
    → (p : ℕ) → in_outputs outputs p ≡ true → free_in unmapped p ≡ false
unfolding known_in
only_off unmapped outputs only alone off p under = elim (cases_Bool (known_in unmapped p)) [
  | inl known ↦ ap (free_in unmapped) (eqb-true p only (sym (alone p (unmapped.paged p known).1) ∙ under)) ∙ off
  | inr unknown ↦ unknown_free unmapped p unknown
]

-- the first pages, where they are among outputs, are free no more
pub record CoversFirst (outputs : Outputs) (n : ℕ) (old new : Unmapped) : Type 0 where
  pub pages : pages_in new ≡ pages_in old
  pub may : (table p : ℕ) → may_map new table p ≡ may_map old table p
  pub others : (p : ℕ) → in_outputs outputs p ≡ false → free_in new p ≡ free_in old p
  pub first : (j p : ℕ) → j < n → slice_get (pages_in old) j ≡ Some p → in_outputs outputs p ≡ true → free_in new p ≡ false

module _ (outputs : Outputs) (old : Unmapped) where
  pub first_end : (n : ℕ) (new : Unmapped) → length (pages_in old) ≤ n → CoversFirst outputs n old new → (p : ℕ)
      → free_in new p ≡ (free_in old p && not (in_outputs outputs p))
  first_end n new end c p = elim (cases_Bool (in_outputs outputs p)) [
    | inl on ↦ off on ∙ sym (ap (λ (b : Bool). free_in old p && not b) on ∙ and-false (free_in old p))
    | inr out ↦ c.others p out ∙ sym (ap (λ (b : Bool). free_in old p && not b) out ∙ and-true (free_in old p))
  ]
    where
      off : in_outputs outputs p ≡ true → free_in new p ≡ false
      off on = elim (cases_Bool (known_in old p)) [
        | inl known ↦ let k = known_index old p known in
            c.first k.0 p (omega (arith, slice_get_within (pages_in old) k.0 p k.1, end)) k.1 on
        | inr unknown ↦ unknown_free new p (known_same old new c.pages p ∙ unknown)
      ]

-- one page alone is among outputs
pub only_free : (unmapped : Unmapped) (outputs : Outputs) (only : ℕ)
    → ((p : ℕ) → p % 4096 ≡ 0 → in_outputs outputs p ≡ (p == only)) → (p : ℕ)
    → (free_in unmapped p && not (p == only)) ≡ (free_in unmapped p && not (in_outputs outputs p))
unfolding free_in
only_free unmapped outputs only alone p = by (free_in unmapped p) refl
  where
    some : {V : Type 0} (test : V → Bool) (o : Option V) → option_map_or test o false ≡ true → is_some o ≡ true
    some test None e = e
    some test (Some v) e = refl

    by : (b : Bool) → free_in unmapped p ≡ b → (b && not (p == only)) ≡ (b && not (in_outputs outputs p))
    by false off = refl
    by true on = ap not (sym (alone p (unmapped.paged p (some (λ l. l.free) (get nat_eq unmapped.pages p) on)).1))

-- one page more, which is among the outputs or isn't
module _ (outputs : Outputs) (old : Unmapped) (n page : ℕ) (u : Unmapped) (c : CoversFirst outputs n old u)
    (at : slice_get (pages_in u) n ≡ Some page) where
  -- one of the first that isn't the page came before
  earlier : (j p : ℕ) → j < n + 1 → slice_get (pages_in old) j ≡ Some p → (p == page) ≡ false → j < n
  earlier j p low is k = elim (cases_Bool (nat_lt j n)) [
    | inl t ↦ ltb-true j n t
    | inr f ↦
        let last : j ≡ n = omega (arith, low, ltb-false j n f) in
        let same : Some p ≡ Some page = sym is ∙ ap (slice_get (pages_in old)) last
        ∙ ap (λ (ps : List ℕ). slice_get ps n) (sym c.pages) ∙ at in
        absurd (true≢false (sym (eq-eqb p page (same_Some p page same)) ∙ k))
  ]

  pub first_kept : in_outputs outputs page ≡ false → CoversFirst outputs (n + 1) old u
  first_kept out = record {
    pages = c.pages;
    may = c.may;
    others = c.others;
    first = λ j p low is on. by j p low is on (p == page) refl;
  }
    where
      by : (j p : ℕ) → j < n + 1 → slice_get (pages_in old) j ≡ Some p → in_outputs outputs p ≡ true → (b : Bool) → (p == page) ≡ b
          → free_in u p ≡ false
      by j p low is on true k = absurd (true≢false (sym on ∙ ap (in_outputs outputs) (eqb-true p page k) ∙ out))
      by j p low is on false k = c.first j p (earlier j p low is k) is on

  pub first_taken : (v : Unmapped) → in_outputs outputs page ≡ true → pages_in v ≡ pages_in u
      → ((table p : ℕ) → may_map v table p ≡ may_map u table p)
      → ((p : ℕ) → free_in v p ≡ (if p == page then false else free_in u p)) → CoversFirst outputs (n + 1) old v
  first_taken v on pages may free = record {
    pages = pages ∙ c.pages;
    may = λ table p. may table p ∙ c.may table p;
    others = λ p out. free p ∙ off p out (p == page) refl ∙ c.others p out;
    first = λ j p low is within. free p ∙ by j p low is within (p == page) refl;
  }
    where
      off : (p : ℕ) → in_outputs outputs p ≡ false → (b : Bool) → (p == page) ≡ b → (if b then false else free_in u p) ≡ free_in u p
      off p out true k = absurd (true≢false (sym on ∙ ap (in_outputs outputs) (sym (eqb-true p page k)) ∙ out))
      off p out false k = refl

      by : (j p : ℕ) → j < n + 1 → slice_get (pages_in old) j ≡ Some p → in_outputs outputs p ≡ true → (b : Bool) → (p == page) ≡ b
          → (if b then false else free_in u p) ≡ false
      by j p low is within true k = refl
      by j p low is within false k = c.first j p (earlier j p low is k) is within
