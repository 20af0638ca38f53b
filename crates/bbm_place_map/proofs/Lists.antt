-- Elements of a list after an edit.
use Rattle.bbm_place_map.proofs.Common.{◌≡◌, ℕ, ◌-◌, ◌<◌, Bool, nat_eq, nat_le, zero, suc, List, [], ◌∷◌, ◌++◌, length}
use Rattle.bbm_place_map.proofs.Common.{Option, Some, None, refl, ap, sym, ◌∙◌, arith, inl, inr, if◌then◌else◌, get_or}
use Rattle.bbm_place_map.proofs.Common.{take, slice_get, set, swap_remove, cases_eq, cases_lt, cases_Bool, eq-eqb}
use Rattle.bbm_place_map.proofs.Common.{ne_eqb, le-leb, lt-leb, slice_get-get_or}

same_test : (i n : ℕ) → nat_eq (suc i) (suc n) ≡ nat_eq i n
same_test i n =
    elim (cases_eq i n) [
      | inl e ↦ rw (eq-eqb i n e, eq-eqb (suc i) (suc n) (omega arith)) refl
      | inr ne ↦ rw (ne_eqb i n ne, ne_eqb (suc i) (suc n) (λ e. ne (omega arith))) refl
    ]

module _ {X : Type 0} where
  pub push_get : (xs : List X) (x : X) (i : ℕ) → slice_get (xs ++ x ∷ []) i ≡ (if nat_eq i (length xs) then Some x else slice_get xs i)
  push_get [] x zero = refl
  push_get [] x (suc i) = ap (λ (b : Bool). if b then Some x else None) (sym (ne_eqb (suc i) 0 (λ e. absurd (omega arith))))
  push_get (y ∷ xs) x zero = ap (λ (b : Bool). if b then Some x else Some y) (sym (ne_eqb 0 (length (y ∷ xs)) (λ e. absurd (omega arith))))
  push_get (y ∷ xs) x (suc i) = push_get xs x i ∙ ap (λ (b : Bool). if b then Some x else slice_get xs i) (sym (same_test i (length xs)))

  pub set_get : (xs : List X) (k : ℕ) (y : X) (i : ℕ) → k < length xs → slice_get (set xs k y) i ≡ (if nat_eq i k then Some y else slice_get xs i)
  set_get [] k y i within = absurd (omega arith)
  set_get (x ∷ xs) zero y zero within = refl
  set_get (x ∷ xs) zero y (suc i) within = ap (λ (b : Bool). if b then Some y else slice_get xs i) (sym (ne_eqb (suc i) 0 (λ e. absurd (omega arith))))
  set_get (x ∷ xs) (suc k) y zero within = ap (λ (b : Bool). if b then Some y else Some x) (sym (ne_eqb 0 (suc k) (λ e. absurd (omega arith))))
  set_get (x ∷ xs) (suc k) y (suc i) within = set_get xs k y i (omega arith) ∙ ap (λ (b : Bool). if b then Some y else slice_get xs i) (sym (same_test i k))

  pub take_get : (n : ℕ) (xs : List X) (i : ℕ) → slice_get (take n xs) i ≡ (if nat_le n i then None else slice_get xs i)
  take_get zero xs i = rw (le-leb 0 i (omega arith)) refl
  take_get (suc n) [] i = elim (cases_Bool (nat_le (suc n) i)) [ inl e ↦ rw e refl | inr e ↦ rw e refl ]
  take_get (suc n) (x ∷ xs) zero = ap (λ (b : Bool). if b then None else Some x) (sym (lt-leb (suc n) 0 (omega arith)))
  take_get (suc n) (x ∷ xs) (suc i) =
      take_get n xs i ∙ ap (λ (b : Bool). if b then None else slice_get xs i)
      (elim (cases_lt i n) [
        | inl lt ↦ lt-leb n i lt ∙ sym (lt-leb (suc n) (suc i) (omega arith))
        | inr ge ↦ le-leb n i ge ∙ sym (le-leb (suc n) (suc i) (omega arith))
      ])

  pub swap_get : (xs : List X) (k : ℕ) (d : X) (i : ℕ) → k < length xs
      → slice_get (swap_remove xs k d) i ≡ (if nat_le (length xs - 1) i then None else if nat_eq i k then slice_get xs (length xs - 1) else slice_get xs i)
  swap_get xs k d i within =
      let last : slice_get xs (length xs - 1) ≡ Some (get_or xs (length xs - 1) d) = slice_get-get_or xs (length xs - 1) d (omega arith) in
      take_get (length xs - 1) (set xs k (get_or xs (length xs - 1) d)) i
      ∙ ap (λ (o : Option X). if nat_le (length xs - 1) i then None else o) (set_get xs k (get_or xs (length xs - 1) d) i within)
      ∙ ap (λ (o : Option X). if nat_le (length xs - 1) i then None else if nat_eq i k then o else slice_get xs i) (sym last)
