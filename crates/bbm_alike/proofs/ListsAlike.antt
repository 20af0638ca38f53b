-- Lists and tests that are made alike.
use Rattle.bbm_rules.proofs.Common.{◌≡◌, ℕ, zero, suc, ◌<◌, ◌||◌, Bool, cond, List, [], ◌∷◌, Option, filter, filter_map}
use Rattle.bbm_rules.proofs.Common.{flat_map, refl, ◌∙◌, ap, inl, inr, any, arith, In, some_pe}

pub same_flat : {A B : Type 0} (f g : A → List B) (xs : List A) → ((x : A) → In xs x → f x ≡ g x)
    → flat_map f xs ≡ flat_map g xs
same_flat f g [] same = refl
same_flat f g (x ∷ xs) same =
    rw (same x (inl refl), same_flat f g xs (λ y there. same y (inr there))) refl

pub same_filter_map : {A B : Type 0} (f g : A → Option B) (xs : List A) → ((x : A) → In xs x → f x ≡ g x)
    → filter_map f xs ≡ filter_map g xs
same_filter_map f g [] same = refl
same_filter_map f g (x ∷ xs) same =
    rw (same x (inl refl), same_filter_map f g xs (λ y there. same y (inr there))) refl

pub same_filter : {A : Type 0} (f g : A → Bool) (xs : List A) → ((x : A) → f x ≡ g x) → filter f xs ≡ filter g xs
same_filter f g [] same = refl
same_filter {A} f g (x ∷ xs) same =
    ap (λ (b : Bool). cond b (x ∷ filter f xs) (filter f xs)) (same x)
    ∙ ap (λ (ys : List A). cond (g x) (x ∷ ys) ys) (same_filter f g xs same)

pub same_any : {A : Type 0} (f g : A → Bool) (xs : List A) → ((x : A) → In xs x → f x ≡ g x) → any f xs ≡ any g xs
same_any f g [] same = refl
same_any f g (x ∷ xs) same =
    ap (λ (b : Bool). b || any f xs) (same x (inl refl))
    ∙ ap (λ (b : Bool). g x || b) (same_any f g xs (λ y there. same y (inr there)))

pub same_some_pe : (n : ℕ) (f g : ℕ → Bool) → ((p : ℕ) → p < n → f p ≡ g p) → some_pe n f ≡ some_pe n g
same_some_pe zero f g same = refl
same_some_pe (suc n) f g same =
    ap (λ (b : Bool). b || some_pe n f) (same n (omega arith))
    ∙ ap (λ (b : Bool). g n || b) (same_some_pe n f g (λ p below. same p (omega arith)))
