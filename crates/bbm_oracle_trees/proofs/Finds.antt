-- The first item of a list that passes a test.
use Rattle.bbm_rules.proofs.Common.{◌≡◌, ℕ, zero, suc, ◌+◌, ◌<◌, Bool, true, false, cond, List, [], ◌∷◌, ◌++◌, length}
use Rattle.bbm_rules.proofs.Common.{get_or, take, Option, Some, None, refl, sym, ◌∙◌, ap, subst, append_assoc, arith}
use Rattle.bbm_rules.proofs.Common.{take_more, filter_map-append, cons_option, list_any, or_parts}
use Rattle.std.specs.List.{filter_map, find}
use Rattle.std.specs.Option.{option_to_list}

module _ {X : Type 0} (test : X → Bool) where
  -- where no item before it passes
  pub find_found : (xs : List X) (i : ℕ) (x : X) → i < length xs → x ≡ get_or xs i x → find test (take i xs) ≡ None →
      test x ≡ true → Some x ≡ find test xs
  find_found [] i x lt is none hit = absurd (omega arith)
  find_found (y ∷ ys) zero x lt is none hit =
      sym (ap (λ (z : X). cond (test z) (Some z) (find test ys)) (sym is)
      ∙ ap (λ (b : Bool). cond b (Some x) (find test ys)) hit)
  find_found (y ∷ ys) (suc i) x lt is none hit =
      by_test (test y) (λ before. find_found ys i x (omega arith) is before hit) none
    where
      by_test : (b : Bool) → (find test (take i ys) ≡ None → Some x ≡ find test ys) →
          cond b (Some y) (find test (take i ys)) ≡ None → Some x ≡ cond b (Some y) (find test ys)
      by_test true later none = cc
      by_test false later none = later none

  -- one more item that doesn't
  pub find_next : (xs : List X) (i : ℕ) (x : X) → i < length xs → x ≡ get_or xs i x → find test (take i xs) ≡ None →
      test x ≡ false → find test (take (i + 1) xs) ≡ None
  find_next [] i x lt is none miss = absurd (omega arith)
  find_next (y ∷ ys) zero x lt is none miss =
      ap (λ (z : X). cond (test z) (Some z) None) (sym is) ∙ ap (λ (b : Bool). cond b (Some x) None) miss
  find_next (y ∷ ys) (suc i) x lt is none miss =
      let number : suc i + 1 ≡ suc (i + 1) = omega arith in
      ap (λ (n : ℕ). find test (take n (y ∷ ys))) number
      ∙ by_test (test y) (λ before. find_next ys i x (omega arith) is before miss) none
    where
      by_test : (b : Bool) → (find test (take i ys) ≡ None → find test (take (i + 1) ys) ≡ None) →
          cond b (Some y) (find test (take i ys)) ≡ None → cond b (Some y) (find test (take (i + 1) ys)) ≡ None
      by_test true later none = cc
      by_test false later none = later none

-- what a search gave passes its test, and no test that no item passes
pub found_passes : {X : Type 0} (test other : X → Bool) (xs : List X) (x : X) → find test xs ≡ Some x →
    list_any other xs ≡ false → (test x ≡ true) × (other x ≡ false)
found_passes test other [] x found none = cc
found_passes {X} test other (y ∷ ys) x found none =
    by_test (test y) refl found (λ later. found_passes test other ys x later (or_parts (other y) (list_any other ys) none).1)
  where
    by_test : (b : Bool) → test y ≡ b → cond b (Some y) (find test ys) ≡ Some x →
        (find test ys ≡ Some x → (test x ≡ true) × (other x ≡ false)) → (test x ≡ true) × (other x ≡ false)
    by_test true e found later =
        let same : y ≡ x = cc in
        subst (λ (z : X). (test z ≡ true) × (other z ≡ false)) same (e, (or_parts (other y) (list_any other ys) none).0)
    by_test false e found later = later found

-- one more item of a list whose items may give nothing
pub filter_map_behind : {X Y : Type 0} (f : X → Option Y) (front : List Y) (xs : List X) (i : ℕ) (x : X) → i < length xs →
    x ≡ get_or xs i x → (front ++ filter_map f (take i xs)) ++ option_to_list (f x) ≡ front ++ filter_map f (take (i + 1) xs)
filter_map_behind {X} {Y} f front xs i x lt is =
    append_assoc front (filter_map f (take i xs)) (option_to_list (f x))
    ∙ ap (λ (ys : List Y). front ++ (filter_map f (take i xs) ++ ys)) (one (f x))
    ∙ ap (λ (ys : List Y). front ++ ys) (sym (filter_map-append f (take i xs) (x ∷ [])))
    ∙ ap (λ (zs : List X). front ++ filter_map f zs)
    (ap (λ (z : X). take i xs ++ z ∷ []) is ∙ sym (take_more xs i x lt))
  where
    one : (o : Option Y) → option_to_list o ≡ cons_option o []
    one None = refl
    one (Some y) = refl
