-- Tests over lists.
use Rattle.bbm_rules.proofs.Common.{◌≡◌, Bool, true, ◌&&◌, ◌||◌, List, [], ◌∷◌, refl, ap, ◌∙◌, inl, inr, and_from, In}
use Rattle.bbm_rules.proofs.Common.{flat_map, list_any, list_all, list_any-append, list_any_more}
use Rattle.bbm_rules.proofs.Common.{ℕ, ◌+◌, ◌<◌, length, take, get_or, sym}

pub every_of : {A : Type 0} (test : A → Bool) (xs : List A) → ((x : A) → In xs x → test x ≡ true) → list_all test xs ≡ true
every_of test [] each = refl
every_of test (x ∷ xs) each =
    and_from (test x) (list_all test xs) (each x (inl refl)) (every_of test xs (λ y i. each y (inr i)))

pub every_alike : {A : Type 0} (f g : A → Bool) (xs : List A) → ((x : A) → f x ≡ g x) → list_all f xs ≡ list_all g xs
every_alike f g [] same = refl
every_alike f g (x ∷ xs) same =
    ap (λ (b : Bool). b && list_all f xs) (same x) ∙ ap (λ (b : Bool). g x && b) (every_alike f g xs same)

pub any_flat : {A B : Type 0} (f : A → List B) (test : B → Bool) (xs : List A)
    → list_any test (flat_map f xs) ≡ list_any (λ x. list_any test (f x)) xs
any_flat f test [] = refl
any_flat f test (x ∷ xs) =
    list_any-append test (f x) (flat_map f xs) ∙ ap (λ (b : Bool). list_any test (f x) || b) (any_flat f test xs)

-- one more of the elements among which one is looked for
pub any_more : {X : Type 0} (f : X → Bool) (b before after : Bool) (xs : List X) (i : ℕ) (x : X) → b ≡ f x
    → i < length xs → x ≡ get_or xs i x → before ≡ list_any f (take i xs) → after ≡ (before || b)
    → after ≡ list_any f (take (i + 1) xs)
any_more f b before after xs i x same below is is_before is_after =
    is_after
    ∙ ap (λ (y : Bool). before || y) (same ∙ ap f is)
    ∙ ap (λ (y : Bool). y || f (get_or xs i x)) is_before
    ∙ sym (list_any_more f xs i x below)
