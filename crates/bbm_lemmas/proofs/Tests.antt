-- Whether some item of a list passes a test: two tests, tests that are joined, and lists that are made from others.
use Rattle.std.proofs.Common.{◌≡◌, Bool, true, false, cond, ◌&&◌, ◌||◌, List, [], ◌∷◌, filter, map, reverse, refl, sym}
use Rattle.std.proofs.Common.{◌∙◌, ap, inl, inr}
use Rattle.std.proofs.Math.Bool.{and-false, and-true, or-false, or_comm}
use Rattle.std.proofs.lemmas.List.{reverse-append}
use Rattle.std.proofs.lemmas.List.Folds.{list_any-append}
use Rattle.std.specs.List.{list_any}
use Rattle.bbm_lemmas.specs.Elements.{In}
use Rattle.bbm_lemmas.proofs.Bools.{or_middle}
use Rattle.bbm_lemmas.proofs.Elements.{is_none_of}

-- ---- two tests that say the same of each item

pub any_alike : {X : Type 0} (f g : X → Bool) (xs : List X) → ((x : X) → In xs x → f x ≡ g x)
    → list_any f xs ≡ list_any g xs
any_alike f g [] same = refl
any_alike f g (x ∷ xs) same =
    ap (λ (b : Bool). b || list_any f xs) (same x (inl refl))
    ∙ ap (λ (b : Bool). g x || b) (any_alike f g xs (λ y i. same y (inr i)))

pub any_same : {X : Type 0} (f g : X → Bool) (xs : List X) → ((x : X) → f x ≡ g x) → list_any f xs ≡ list_any g xs
any_same f g xs same = any_alike f g xs (λ x i. same x)

-- ---- tests that are joined, or joined with what is the same for each item

pub any_never : {X : Type 0} (xs : List X) → list_any (λ (x : X). false) xs ≡ false
any_never {X} xs = is_none_of (λ (x : X). false) xs (λ x i. refl)

pub any_or : {X : Type 0} (f g : X → Bool) (xs : List X)
    → list_any (λ x. f x || g x) xs ≡ (list_any f xs || list_any g xs)
any_or f g [] = refl
any_or f g (x ∷ xs) =
    ap (λ (b : Bool). (f x || g x) || b) (any_or f g xs) ∙ or_middle (f x) (g x) (list_any f xs) (list_any g xs)

pub any_and : {X : Type 0} (c : Bool) (f : X → Bool) (xs : List X)
    → list_any (λ x. c && f x) xs ≡ (c && list_any f xs)
any_and true f xs = refl
any_and false f xs = any_never xs

pub any_both : {X : Type 0} (f : X → Bool) (c : Bool) (xs : List X)
    → list_any (λ x. f x && c) xs ≡ (list_any f xs && c)
any_both f true xs = any_same (λ x. f x && true) f xs (λ x. and-true (f x)) ∙ sym (and-true (list_any f xs))
any_both f false xs =
    is_none_of (λ x. f x && false) xs (λ x i. and-false (f x)) ∙ sym (and-false (list_any f xs))

-- ---- lists that are made from others

pub any_filter : {X : Type 0} (f keep : X → Bool) (xs : List X)
    → list_any f (filter keep xs) ≡ list_any (λ x. keep x && f x) xs
any_filter f keep [] = refl
any_filter f keep (x ∷ xs) = by (keep x) (any_filter f keep xs)
  where
    by : (c : Bool) → list_any f (filter keep xs) ≡ list_any (λ x. keep x && f x) xs
        → list_any f (cond c (x ∷ filter keep xs) (filter keep xs)) ≡ ((c && f x) || list_any (λ x. keep x && f x) xs)
    by true e = ap (λ (b : Bool). f x || b) e
    by false e = e

pub any_map : {X Y : Type 0} (f : Y → Bool) (g : X → Y) (xs : List X)
    → list_any f (map g xs) ≡ list_any (λ x. f (g x)) xs
any_map f g [] = refl
any_map f g (x ∷ xs) = ap (λ (b : Bool). f (g x) || b) (any_map f g xs)

pub any_reverse : {X : Type 0} (f : X → Bool) (xs : List X) → list_any f (reverse xs) ≡ list_any f xs
any_reverse f [] = refl
any_reverse f (x ∷ xs) =
    ap (list_any f) (reverse-append (x ∷ []) xs)
    ∙ list_any-append f (reverse xs) (x ∷ [])
    ∙ or_comm (list_any f (reverse xs)) (f x || false)
    ∙ ap (λ (b : Bool). b || list_any f (reverse xs)) (or-false (f x))
    ∙ ap (λ (b : Bool). f x || b) (any_reverse f xs)
