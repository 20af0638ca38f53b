-- Zeros at the end.
use Rattle.bbm_place_map.proofs.Common.{◌≡◌, ℕ, ◌≤◌, Bool, true, zero, suc, List, [], ◌∷◌, ◌++◌, length, refl, ap, ◌∙◌}
use Rattle.bbm_place_map.proofs.Common.{arith, take, if◌then◌else◌, cond-true, count_by, is_listed, value_in, cond}
use Rattle.bbm_place_map.proofs.Common.{replicate}
use Rattle.std.proofs.lemmas.List.{take_all}
use Rattle.std.proofs.lemmas.List.Folds.{sum_by-replicate}
use Rattle.std.proofs.lemmas.List.Sums.{sum_by-append}

zeros : (n i : ℕ) → value_in (replicate n 0) i ≡ 0
zeros (suc n) (suc i) = zeros n i
zeros _ _ = refl

-- the values stay, and there are as many listed cells
pub values_filled : (xs : List ℕ) (n i : ℕ) → value_in (xs ++ replicate n 0) i ≡ value_in xs i
values_filled [] n i = zeros n i
values_filled (x ∷ xs) n zero = refl
values_filled (x ∷ xs) n (suc i) = values_filled xs n i

pub count_filled : (xs : List ℕ) (n : ℕ) → count_by is_listed (xs ++ replicate n 0) ≡ count_by is_listed xs
count_filled xs n =
    omega (
      arith,
      sum_by-append (λ x. cond (is_listed x) 1 0) xs (replicate n 0),
      sum_by-replicate (λ x. cond (is_listed x) 1 0) n 0,
    )

-- what a vector with room has once it is resized
pub filled : (xs ys : List ℕ) (n m : ℕ) (ok : Bool) → ok ≡ true → length xs ≤ n
    → ys ≡ (if ok then take n xs ++ replicate m 0 else xs) → ys ≡ xs ++ replicate m 0
filled xs ys n m ok is within made =
    made ∙ cond-true ok (take n xs ++ replicate m 0) xs is ∙ ap (λ (zs : List ℕ). zs ++ replicate m 0) (take_all n xs within)
