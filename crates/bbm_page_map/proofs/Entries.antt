-- Entries after a change, and their keys.
use Rattle.std.proofs.Common.{◌≡◌, ◌∙◌, ℕ, zero, suc, ◌⊎◌, inl, inr, true, false, List, [], ◌∷◌, ◌++◌, length}
use Rattle.std.proofs.Common.{if◌then◌else◌, nat_eq, refl, sym, ap, arith, Some, None, is_some, slice_get, set}
use Rattle.std.proofs.Common.{Bool, Option, cond, get_or, ◌<◌}
use Rattle.std.proofs.lemmas.Bool.{cases_Bool, cases_lt, cond-true, cond-false, eq-eqb, eqb-true, ne_eqb, both_ways}
use Rattle.std.proofs.lemmas.Cmp.{nat_eq_equiv}
use Rattle.std.proofs.lemmas.Map.{none_passes_from_lookup, lookup-set_value}
use Rattle.std.proofs.lemmas.Map.Entries.{lookup_from_place}
use Rattle.std.proofs.lemmas.Map.Keys.{apart_from_distinct}
use Rattle.std.proofs.lemmas.Option.{none-some, same_Some, get_or_from_slice_get, slice_get_within}
use Rattle.std.specs.List.{IsDistinct}
use Rattle.std.specs.List.{list_any}
use Rattle.std.specs.Map.{keys_of, lookup, set_value}

-- ---- one more at the end of a list

module _ {X : Type 0} (y : X) where
  pub push_cases : (xs : List X) (k : ℕ) (x : X) → slice_get (xs ++ y ∷ []) k ≡ Some x
      → (slice_get xs k ≡ Some x) ⊎ ((k ≡ length xs) × (y ≡ x))
  push_cases [] zero x is = inr (refl, same_Some y x is)
  push_cases [] (suc k) x is = absurd (none-some x is)
  push_cases (z ∷ xs) zero x is = inl is
  push_cases (z ∷ xs) (suc k) x is =
      elim (push_cases xs k x is) [
        | inl old ↦ inl old
        | inr last ↦ inr (ap suc last.0, last.1)
      ]

  pub push_last : (xs : List X) → slice_get (xs ++ y ∷ []) (length xs) ≡ Some y
  push_last [] = refl
  push_last (z ∷ xs) = push_last xs

  pub push_old : (xs : List X) (k : ℕ) (x : X) → slice_get xs k ≡ Some x → slice_get (xs ++ y ∷ []) k ≡ Some x
  push_old [] k x is = absurd (none-some x is)
  push_old (z ∷ xs) zero x is = is
  push_old (z ∷ xs) (suc k) x is = push_old xs k x is

-- ---- entries and their keys

module _ {V : Type 0} where
  pub entry_there : (es : List (ℕ × V)) (i p : ℕ) → slice_get (keys_of es) i ≡ Some p
      → (v : V) × (slice_get es i ≡ Some (p, v))
  entry_there [] i p is = absurd (none-some p is)
  entry_there (e ∷ es) zero p is = (e.1, ap (λ (k : ℕ). Some (k, e.1)) (same_Some e.0 p is))
  entry_there (e ∷ es) (suc i) p is = entry_there es i p is

  pub key_there : (es : List (ℕ × V)) (i p : ℕ) (v : V) → slice_get es i ≡ Some (p, v)
      → slice_get (keys_of es) i ≡ Some p
  key_there [] i p v is = absurd (none-some (p, v) is)
  key_there (e ∷ es) zero p v is = ap (λ (x : ℕ × V). Some x.0) (same_Some e (p, v) is)
  key_there (e ∷ es) (suc i) p v is = key_there es i p v is

  pub keys_push : (es : List (ℕ × V)) (p : ℕ) (v : V) → keys_of (es ++ (p, v) ∷ []) ≡ keys_of es ++ p ∷ []
  keys_push [] p v = refl
  keys_push (e ∷ es) p v = ap (λ (ks : List ℕ). e.0 ∷ ks) (keys_push es p v)

  -- a key that a list of others has first isn't found before them
  pub off_head : (e : ℕ × V) (es : List (ℕ × V)) (p i : ℕ)
      → ((j : ℕ) → slice_get (keys_of (e ∷ es)) j ≡ Some p → j ≡ suc i) → nat_eq p e.0 ≡ false
  off_head e es p i only = ne_eqb p e.0 (λ same. absurd (omega (arith, only 0 (ap Some (sym same)))))

  -- a write at the only place of a key gives the key another value
  pub set_only : (es : List (ℕ × V)) (i p : ℕ) (v : V) → slice_get (keys_of es) i ≡ Some p
      → ((j : ℕ) → slice_get (keys_of es) j ≡ Some p → j ≡ i) → set es i (p, v) ≡ set_value (nat_eq p) es v
  set_only [] i p v is only = absurd (none-some p is)
  set_only (e ∷ es) zero p v is only =
      let same : p ≡ e.0 = sym (same_Some e.0 p is) in
      ap (λ (k : ℕ). (k, v) ∷ es) same
      ∙ sym (cond-true (nat_eq p e.0) ((e.0, v) ∷ es) (e ∷ set_value (nat_eq p) es v) (eq-eqb p e.0 same))
  set_only (e ∷ es) (suc i) p v is only =
      ap (λ (rest : List (ℕ × V)). e ∷ rest) (set_only es i p v is (λ j at. omega (arith, only (suc j) at)))
      ∙ sym (cond-false (nat_eq p e.0) ((e.0, v) ∷ es) (e ∷ set_value (nat_eq p) es v) (off_head e es p i only))

  -- what each key has once a new one is there
  pub lookup_push : (es : List (ℕ × V)) (p : ℕ) (v : V) (q : ℕ) → lookup (nat_eq p) es ≡ None
      → lookup (nat_eq q) (es ++ (p, v) ∷ []) ≡ (if nat_eq p q then Some v else lookup (nat_eq q) es)
  lookup_push [] p v q none = ap (λ (b : Bool). cond b (Some v) None) (nat_eq_equiv.symm q p)
  lookup_push (e ∷ es) p v q none =
      let passes = none_passes_from_lookup (nat_eq p) (e ∷ es) none in
      let rest = lookup_push es p v q
      (sym (cond-false (nat_eq p e.0) (Some e.1) (lookup (nat_eq p) es) passes.0) ∙ none) in
      elim (cases_Bool (nat_eq q e.0)) [
        | inl here ↦
            let off : nat_eq p q ≡ false =
            ne_eqb p q (λ same. both_ways (nat_eq p e.0) passes.0 (eq-eqb p e.0 (same ∙ eqb-true q e.0 here))) in
            cond-true (nat_eq q e.0) (Some e.1) (lookup (nat_eq q) (es ++ (p, v) ∷ [])) here
            ∙ sym (cond-true (nat_eq q e.0) (Some e.1) (lookup (nat_eq q) es) here)
            ∙ sym (cond-false (nat_eq p q) (Some v) (lookup (nat_eq q) (e ∷ es)) off)
        | inr off ↦
            cond-false (nat_eq q e.0) (Some e.1) (lookup (nat_eq q) (es ++ (p, v) ∷ [])) off
            ∙ rest
            ∙ ap (λ (o : Option V). if nat_eq p q then Some v else o)
            (sym (cond-false (nat_eq q e.0) (Some e.1) (lookup (nat_eq q) es) off))
      ]

  -- a key that has no value isn't there
  pub absent_key : (es : List (ℕ × V)) (p : ℕ) → lookup (nat_eq p) es ≡ None → list_any (nat_eq p) (keys_of es) ≡ false
  absent_key [] p none = refl
  absent_key (e ∷ es) p none =
      let passes = none_passes_from_lookup (nat_eq p) (e ∷ es) none in
      rw passes.0
      (absent_key es p (sym (cond-false (nat_eq p e.0) (Some e.1) (lookup (nat_eq p) es) passes.0) ∙ none))

-- where keys are apart each stands once
pub key_once : (ks : List ℕ) → IsDistinct nat_eq ks → (i j p : ℕ) → slice_get ks i ≡ Some p → slice_get ks j ≡ Some p → j ≡ i
key_once ks apart i j p one two =
    elim (cases_lt i j) [
      | inl less ↦ absurd (differ i j less one two)
      | inr more ↦ elim (cases_lt j i) [ inl less ↦ absurd (differ j i less two one) | inr same ↦ omega arith ]
    ]
  where
    differ : (a b : ℕ) → a < b → slice_get ks a ≡ Some p → slice_get ks b ≡ Some p → ⊥
    differ a b less first second =
        both_ways (nat_eq (get_or ks a p) (get_or ks b p))
        (apart_from_distinct nat_eq ks a b p apart less (slice_get_within ks b p second))
        (eq-eqb (get_or ks a p) (get_or ks b p)
        (get_or_from_slice_get ks a p p first ∙ sym (get_or_from_slice_get ks b p p second)))

-- what each key has once one that is there has another value
pub lookup_put : {V : Type 0} (es : List (ℕ × V)) (p : ℕ) (v : V) (q : ℕ) → is_some (lookup (nat_eq p) es) ≡ true
    → lookup (nat_eq q) (set_value (nat_eq p) es v) ≡ (if nat_eq p q then Some v else lookup (nat_eq q) es)
lookup_put es p v q known = lookup-set_value nat_eq_equiv (nat_eq p) (nat_eq_equiv.congr p) q v es known

-- a write at an index gives the page that stands there another value
module _ {V : Type 0} (es : List (ℕ × V)) (i : ℕ) (x : ℕ × V) (v : V) (apart : IsDistinct nat_eq (keys_of es))
    (at : slice_get es i ≡ Some x) where
  here : slice_get (keys_of es) i ≡ Some x.0
  here = key_there es i x.0 x.1 at

  pub put_is : set es i (x.0, v) ≡ set_value (nat_eq x.0) es v
  put_is = set_only es i x.0 v here (λ j also. key_once (keys_of es) apart i j x.0 here also)

  pub put_updates : (p : ℕ) → slice_get (keys_of es) i ≡ Some p → (q : ℕ)
      → lookup (nat_eq q) (set es i (x.0, v)) ≡ (if nat_eq p q then Some v else lookup (nat_eq q) es)
  put_updates p is q =
      let same : x.0 ≡ p = same_Some x.0 p (sym here ∙ is) in
      ap (lookup (nat_eq q)) put_is
      ∙ lookup_put es x.0 v q (ap is_some (lookup_from_place nat_eq_equiv es i x.0 x.1 apart at))
      ∙ ap (λ (k : ℕ). if nat_eq k q then Some v else lookup (nat_eq q) es) same
