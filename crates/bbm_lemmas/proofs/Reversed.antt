-- A list that is read from its end.
use Rattle.std.proofs.Common.{◌≡◌, ℕ, ◌+◌, ◌<◌, Bool, true, false, ◌&&◌, List, [], ◌∷◌, length, take, get_or, reverse}
use Rattle.std.proofs.Common.{refl, sym, ap, ◌∙◌, true≢false}
use Rattle.std.specs.List.{list_all}
use Rattle.std.proofs.lemmas.List.{reverse-append, take_more}
use Rattle.std.proofs.lemmas.List.Folds.{list_all-append, list_all_at}
use mathlib.Core.Bool.{and-true, and_comm}

-- one more item, from the end
pub reverse_more : {A : Type 0} (xs : List A) (i : ℕ) (x : A) → i < length xs → x ≡ get_or xs i x
    → x ∷ reverse (take i xs) ≡ reverse (take (i + 1) xs)
reverse_more {A} xs i x less is =
    ap (λ (y : A). y ∷ reverse (take i xs)) is
    ∙ sym (ap (λ (ys : List A). reverse ys) (take_more xs i x less) ∙ reverse-append (take i xs) (get_or xs i x ∷ []))

pub every_reverse : {A : Type 0} (test : A → Bool) (xs : List A) → list_all test (reverse xs) ≡ list_all test xs
every_reverse test [] = refl
every_reverse test (x ∷ xs) =
    ap (λ (ys : List _). list_all test ys) (reverse-append (x ∷ []) xs)
    ∙ list_all-append test (reverse xs) (x ∷ [])
    ∙ ap (λ (b : Bool). list_all test (reverse xs) && b) (and-true (test x))
    ∙ and_comm (list_all test (reverse xs)) (test x)
    ∙ ap (λ (b : Bool). test x && b) (every_reverse test xs)

-- an item of a list whose items all pass a test
pub passes_at : {A : Type 0} (test : A → Bool) (xs : List A) (i : ℕ) (x : A) → list_all test (reverse xs) ≡ true
    → i < length xs → x ≡ get_or xs i x → test x ≡ true
passes_at test xs i x all less is = ap test is ∙ by_case (test (get_or xs i x)) refl
  where
    by_case : (b : Bool) → test (get_or xs i x) ≡ b → b ≡ true
    by_case true e = refl
    by_case false e = absurd (true≢false (sym all ∙ every_reverse test xs ∙ list_all_at test xs i x less e))
