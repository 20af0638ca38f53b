-- A function that changes at one number, and facts that are one of two.
use Rattle.std.proofs.Common.{Bool, false, if◌then◌else◌, inl, inr, nat_eq, refl, sym, true, ℕ, ◌∙◌, ◌≡◌, ◌≢◌, ◌⊎◌}
use Rattle.std.proofs.lemmas.Bool.{cond-false, cond-true, eq-eqb, eqb-true, false≢true, ne_eqb}

module _ {X : Type 0} {g : ℕ → X} {k : ℕ} (f : ℕ → X) (v : X) (is : (i : ℕ) → g i ≡ (if nat_eq i k then v else f i)) where
  pub put_here : (i : ℕ) → i ≡ k → g i ≡ v
  put_here i same = is i ∙ cond-true (nat_eq i k) v (f i) (eq-eqb i k same)

  pub put_away : (i : ℕ) → i ≢ k → g i ≡ f i
  put_away i other = is i ∙ cond-false (nat_eq i k) v (f i) (ne_eqb i k other)

-- what is chosen by a test
pub split_by : {X : Type 0} {x v w : X} (b : Bool) → (b ≡ true → x ≡ v) → (b ≡ false → x ≡ w) → x ≡ (if b then v else w)
split_by true here away = here refl
split_by false here away = away refl

pub split_at : {X : Type 0} {x v w : X} (i k : ℕ) → (i ≡ k → x ≡ v) → (i ≢ k → x ≡ w) → x ≡ (if nat_eq i k then v else w)
split_at i k here away =
    split_by (nat_eq i k) (λ same. here (eqb-true i k same)) (λ other. away (λ same. false≢true (sym other ∙ eq-eqb i k same)))

pub if_then : {X Y : Type 0} (f : X → Y) (b : Bool) (x y : X) → f (if b then x else y) ≡ (if b then f x else f y)
if_then f true x y = refl
if_then f false x y = refl

pub either : {A B C D : Type 0} → A ⊎ B → (A → C) → (B → D) → C ⊎ D
either (inl a) f g = inl (f a)
either (inr b) f g = inr (g b)
