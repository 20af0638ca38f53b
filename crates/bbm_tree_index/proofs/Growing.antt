-- Well formed tables of marks, and the order of their keys.
use Rattle.bbm_tree_index.proofs.Common.{length-map, IndexMap, get, index_map_len, keys, Heading, SameKeys, Fits}
use Rattle.bbm_tree_index.proofs.Common.{RoleFits, Well, grown, joined, Mark, Spot, Hangs}
use Rattle.bbm_rules.proofs.Common.{◌≡◌, ℕ, zero, suc, ◌<◌, ◌≤◌, ◌+◌, ◌*◌, ◌%◌, ◌^◌, Bool, true, false, ◌||◌, ◌==◌}
use Rattle.bbm_rules.proofs.Common.{List, [], ◌∷◌, ◌++◌, Option, Some, None, is_some, nat_eq, take, get_or, slice_get}
use Rattle.bbm_rules.proofs.Common.{refl, sym, ap, ◌∙◌, subst, true≢false, if◌then◌else◌, arith, nat_tests, list_any}
use Rattle.bbm_rules.proofs.Common.{eqb-true, inl, inr, eq-eqb, false_from_ne_true, none-some, or_cases, same_Some}
use Rattle.bbm_rules.proofs.Common.{slice_get_within, take_all, take_more, list_any-append, input_pages, Kind, or-false}
use Rattle.std.specs.List.{IsDistinct}
use Rattle.bbm_tree_index.specs.PageTables.{HasPages}
use Rattle.std.proofs.lemmas.Option.{get_or_from_slice_get}
use Rattle.std.proofs.lemmas.Map.Keys.{apart_from_distinct}
use Rattle.std.proofs.lemmas.Map.Made.{is_some-lookup}

below_low : (base index level : ℕ) → level < 3 → index < 512 → base + 512 * input_pages level ≤ 2 ^ 45
    → base + index * input_pages level + 512 * input_pages (suc level) ≤ 2 ^ 45
below_low base index zero l i h = omega (arith, i, h)
below_low base index (suc zero) l i h = omega (arith, i, h)
below_low base index (suc (suc zero)) l i h = omega (arith, i, h)
below_low base index (suc (suc (suc level))) l i h = absurd (omega (arith, l))

pub hang_fits : (heading : Heading) (s : Spot) (place index : ℕ) (kind : Kind) (first : ℕ) → Fits s → s.level < 3 → index < 512
    → RoleFits heading (Hangs place kind (suc s.level) (s.base + index * input_pages s.level) first)
hang_fits heading s place index kind first f low i t e = subst Fits (same_Some _ t e) (record {
  shallow = omega (arith, low);
  within = below_low s.base index s.level low i f.within;
})

-- one more page keeps a table well formed
pub well_grown : (heading : Heading) (next : Option ℕ) (mark : Mark) (g g' : ℕ → Option Mark) → ((q : ℕ) → g' q ≡ grown next mark g q)
    → ((p : ℕ) → next ≡ Some p → (p < 2 ^ 48) × (p % 4096 ≡ 0) × RoleFits heading mark.role) → Well heading g → Well heading g'
well_grown heading None mark g g' is new w = record {
  pages = λ p e. w.pages p (ap (λ o. is_some o) (sym (is p)) ∙ e);
  fit = λ p m e. w.fit p m (sym (is p) ∙ e);
}
well_grown heading (Some next) mark g g' is new w = record {
  pages = λ p e. grind (arith, nat_tests, is p, w.pages p, new next refl);
  fit = λ p m e. fit p m (p == next) refl (sym (is p) ∙ e);
}
  where
    joined_fit : (o : Option Mark) → g next ≡ o → RoleFits heading (joined o mark).role
    joined_fit None e = (new next refl).2
    joined_fit (Some old) e = w.fit next old e

    fit : (p : ℕ) (m : Mark) (b : Bool) → (p == next) ≡ b → (if b then Some (joined (g next) mark) else g p) ≡ Some m → RoleFits heading m.role
    fit p m true t e = subst (λ x. RoleFits heading x.role) (same_Some _ m e) (joined_fit (g next) refl)
    fit p m false t e = w.fit p m e

-- a key stands at no earlier index
pub any_at : (k : ℕ) (ks : List ℕ) (j : ℕ) → list_any (nat_eq k) (take j ks) ≡ true → (i : ℕ) × (i < j) × (nat_eq k (get_or ks i 0) ≡ true)
any_at k (x ∷ xs) (suc j) e =
    elim (or_cases (nat_eq k x) (list_any (nat_eq k) (take j xs)) e) [
      | inl t ↦ (0, omega arith, t)
      | inr t ↦ let found = any_at k xs j t in (suc found.0, omega (arith, found.1), found.2)
    ]
any_at k [] (suc j) e = absurd (true≢false (sym e))
any_at k xs zero e = absurd (true≢false (sym e))

pub not_before : (ks : List ℕ) (j k : ℕ) → IsDistinct nat_eq ks → slice_get ks j ≡ Some k → list_any (nat_eq k) (take j ks) ≡ false
not_before ks j k distinct at = false_from_ne_true (list_any (nat_eq k) (take j ks)) (λ e. let found = any_at k ks j e in
    true≢false (sym (eq-eqb (get_or ks found.0 0) (get_or ks j 0) (sym (eqb-true k (get_or ks found.0 0) found.2)
    ∙ sym (get_or_from_slice_get ks j k 0 at))) ∙ apart_from_distinct nat_eq ks found.0 j 0 distinct found.1 (slice_get_within ks j k at)))

pub well_none : (heading : Heading) (g : ℕ → Option Mark) → ((p : ℕ) → g p ≡ None) → Well heading g
well_none heading g none = record {
  pages = λ p e. absurd (true≢false (sym e ∙ ap (λ o. is_some o) (none p)));
  fit = λ p m e. absurd (none-some m (sym (none p) ∙ e));
}

-- what keeps the keys twice keeps them
pub same_keys : {V S : Type 0} {one two three : IndexMap ℕ V S} → SameKeys two three → SameKeys one two → SameKeys one three
same_keys later first = record {
  known = λ p. later.known p ∙ first.known p;
  keys = later.keys ∙ first.keys;
  len = later.len ∙ first.len;
}

pub pages_same : {V S : Type 0} {one two : IndexMap ℕ V S} → SameKeys one two → HasPages one → HasPages two
pages_same same pages p k = pages p (sym (same.known p) ∙ k)

-- one more key is among the first
pub first_more_keys : (ks : List ℕ) (index page p : ℕ) → slice_get ks index ≡ Some page
    → list_any (nat_eq p) (take (index + 1) ks) ≡ (list_any (nat_eq p) (take index ks) || p == page)
first_more_keys ks index page p at =
    ap (list_any (nat_eq p)) (take_more ks index 0 (slice_get_within ks index page at)
    ∙ ap (λ (x : ℕ). take index ks ++ x ∷ []) (get_or_from_slice_get ks index page 0 at))
    ∙ list_any-append (nat_eq p) (take index ks) (page ∷ []) ∙ ap (λ b. list_any (nat_eq p) (take index ks) || b) (or-false (p == page))

pub all_keys : {V S : Type 0} (table : IndexMap ℕ V S) (index : ℕ) → index_map_len table ≤ index → (p : ℕ)
    → list_any (nat_eq p) (take index (keys table)) ≡ is_some (get nat_eq table p)
all_keys table index end p =
    ap (list_any (nat_eq p)) (take_all index (keys table) (subst (λ n. n ≤ index) (sym (length-map table.entries (λ e. e.0))) end))
    ∙ sym (is_some-lookup (nat_eq p) table.entries)
