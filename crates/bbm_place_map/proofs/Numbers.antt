-- The numbers of entries in a list, by the numbers of their values.
use Rattle.bbm_place_map.proofs.Common.{◌≡◌, ◌≢◌, ◌⊎◌, ℕ, zero, suc, Bool, true, false, List, [], ◌∷◌, Option, Some, None}
use Rattle.bbm_place_map.proofs.Common.{refl, ap, sym, ◌∙◌, inl, inr, nat_eq, slice_get, option_map, none-some, same_Some}
use Rattle.bbm_place_map.proofs.Common.{Entry, eq-eqb, eqb-true, if◌then◌else◌, false≢true}
use Rattle.bbm_place_map.specs.Entries.{number_by}

-- a number is 0 where the test is true, or else one more than the rest gives
front_some : (t : Bool) (o : Option ℕ) (k : ℕ) → (if t then Some 0 else option_map (λ n. suc n) o) ≡ Some k
    → ((t ≡ true) × (k ≡ 0)) ⊎ ((n : ℕ) × (o ≡ Some n) × (k ≡ suc n))
front_some true o k h = inl (refl, sym (same_Some 0 k h))
front_some false None k h = absurd (none-some k h)
front_some false (Some n) k h = inr (n, refl, sym (same_Some (suc n) k h))

front_none : (t : Bool) (o : Option ℕ) → (if t then Some 0 else option_map (λ n. suc n) o) ≡ None → (t ≡ false) × (o ≡ None)
front_none true o h = absurd (none-some 0 (sym h))
front_none false None h = (refl, refl)
front_none false (Some n) h = absurd (none-some (suc n) (sym h))

-- an entry with a number is that of its value
pub number_from : (es : List Entry) (j k : ℕ) → number_by es j ≡ Some k → (e : Entry) × (slice_get es k ≡ Some e) × (e.index ≡ j)
number_from [] j k h = absurd (none-some k h)
number_from (e ∷ es) j k h =
    elim (front_some (nat_eq e.index j) (number_by es j) k h) [
      | inl first ↦ (e, ap (slice_get (e ∷ es)) first.1, eqb-true e.index j first.0)
      | inr later ↦ let f = number_from es j later.0 later.1 in (f.0, ap (slice_get (e ∷ es)) later.2 ∙ f.1, f.2)
    ]

-- a value without a number has no entry
pub number_none : (es : List Entry) (j : ℕ) → number_by es j ≡ None → (k : ℕ) (e : Entry) → slice_get es k ≡ Some e → e.index ≢ j
number_none [] j none k e is same = none-some e is
number_none (x ∷ es) j none zero e is same =
    let was = front_none (nat_eq x.index j) (number_by es j) none in
    false≢true (sym was.0 ∙ eq-eqb x.index j (ap (λ (y : Entry). y.index) (same_Some x e is) ∙ same))
number_none (x ∷ es) j none (suc k) e is same = number_none es j (front_none (nat_eq x.index j) (number_by es j) none).1 k e is same

-- lists of the same numbers of values, one after another, give the same numbers
pub numbers_kept : (es fs : List Entry) → ((m : ℕ) → option_map (λ (e : Entry). e.index) (slice_get fs m)
    ≡ option_map (λ (e : Entry). e.index) (slice_get es m)) → (j : ℕ) → number_by fs j ≡ number_by es j
numbers_kept [] [] same j = refl
numbers_kept [] (f ∷ fs) same j = absurd (none-some f.index (sym (same 0)))
numbers_kept (e ∷ es) [] same j = absurd (none-some e.index (same 0))
numbers_kept (e ∷ es) (f ∷ fs) same j =
    ap (λ (n : ℕ). if nat_eq n j then Some 0 else option_map (λ n. suc n) (number_by fs j)) (same_Some f.index e.index (same 0))
    ∙ ap (λ (o : Option ℕ). if nat_eq e.index j then Some 0 else option_map (λ n. suc n) o) (numbers_kept es fs (λ m. same (suc m)) j)

-- a number that is that of the one entry of a value, where it has one
pub number_as : (es : List Entry) (j : ℕ) (o : Option ℕ) → ((k : ℕ) → o ≡ Some k → (e : Entry) × (slice_get es k ≡ Some e) × (e.index ≡ j))
    → ((k : ℕ) (e : Entry) → slice_get es k ≡ Some e → e.index ≡ j → o ≡ Some k) → number_by es j ≡ o
number_as es j o there once = by (number_by es j) refl o refl
  where
    by : (n : Option ℕ) → number_by es j ≡ n → (m : Option ℕ) → o ≡ m → n ≡ m
    by (Some k) is m at = let e = number_from es j k is in sym (once k e.0 e.1 e.2) ∙ at
    by None is None at = refl
    by None is (Some k) at = let e = there k at in absurd (number_none es j is k e.0 e.1 e.2)
