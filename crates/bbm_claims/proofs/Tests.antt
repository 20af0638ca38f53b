-- Tests that are combined, and numbers that are compared. None of them speaks of events.
use Rattle.bbm_claims.proofs.Common.{and-false, or-false}
use Rattle.bbm_rules.proofs.Common.{◌≡◌, ℕ, Bool, true, false, cond, ◌&&◌, ◌||◌, not, nat_lt, List, refl, sym, ◌∙◌, ap}
use Rattle.bbm_rules.proofs.Common.{zero-le, le-ltb, list_any, proved, Is, and-true}
use Rattle.bbm_lemmas.proofs.Tests.{any_or, any_same}

-- no number is below 0
pub none_below : (n : ℕ) → nat_lt n 0 ≡ false
none_below n = le-ltb n 0 zero-le

pub lt_cond : (b : Bool) (n m : ℕ) → nat_lt n (cond b m 0) ≡ (b && nat_lt n m)
lt_cond true n m = refl
lt_cond false n m = none_below n

-- a mark at one position or at those before it
pub lt_at : (k : Bool) (n x y : ℕ) (f g : Bool) → nat_lt n x ≡ f → nat_lt n y ≡ g → (k ≡ true → y ≡ 0)
    → nat_lt n (cond k x y) ≡ ((f && k) || g)
lt_at true n x y f g is_f is_g none =
    is_f
    ∙ sym (and-true f)
    ∙ sym (or-false (f && true))
    ∙ ap (λ (b : Bool). (f && true) || b) (sym (sym is_g ∙ ap (nat_lt n) (none refl) ∙ none_below n))
lt_at false n x y f g is_f is_g none = is_g ∙ ap (λ (b : Bool). b || g) (sym (and-false f))

pub and_or : (a x c y m : Bool) → (((a && x) || (c && y)) && m) ≡ ((a && (x && m)) || (c && (y && m)))
and_or = proved 5 (λ a x c y m. Is (((a && x) || (c && y)) && m) ((a && (x && m)) || (c && (y && m)))) refl

-- two searches of one list
pub any_both : {X : Type 0} (f g h : X → Bool) (xs : List X) → ((x : X) → (f x || g x) ≡ h x)
    → (list_any f xs || list_any g xs) ≡ list_any h xs
any_both f g h xs each = sym (any_or f g xs) ∙ any_same (λ x. f x || g x) h xs each

-- A TLBI that waits at a position, and what it is marked by, with one more event: whether the event stands at the
-- position, what it is there, whether some TLBI waited before, and the two marks.
module _ (here waited : Bool) (n m y : ℕ) (w : Bool) (none : here ≡ true → waited ≡ false)
    (before : (waited && nat_lt n y) ≡ w) where
  stops : here ≡ true → w ≡ false
  stops k = sym before ∙ ap (λ (b : Bool). b && nat_lt n y) (none k)

pub tlbi_case : (here a i r waited : Bool) (n m y : ℕ) (f w : Bool) → (here ≡ true → waited ≡ false)
    → (waited && nat_lt n y) ≡ w → nat_lt n m ≡ f
    → (cond here ((a && i) && r) waited && nat_lt n (cond here m y)) ≡ ((a && (i && (r && (here && f)))) || w)
tlbi_case true a i r waited n m y f w none before marked =
    ap (λ (b : Bool). ((a && i) && r) && b) marked
    ∙ proved 4 (λ a i r f. Is (((a && i) && r) && f) (a && (i && (r && f)))) refl a i r f
    ∙ sym (or-false (a && (i && (r && f))))
    ∙ ap (λ (b : Bool). (a && (i && (r && f))) || b) (sym (stops true waited n m y w none before refl))
tlbi_case false a i r waited n m y f w none before marked =
    before ∙ ap (λ (b : Bool). b || w) (sym (proved 3 (λ a i r. Is (a && (i && (r && false))) false) refl a i r))

pub dsb_case : (here c waited : Bool) (n m y : ℕ) (w : Bool) → (here ≡ true → waited ≡ false)
    → (waited && nat_lt n y) ≡ w
    → (cond here false (not c && waited) && nat_lt n (cond here m y)) ≡ cond c false w
dsb_case true true waited n m y w none before = refl
dsb_case true false waited n m y w none before = sym (stops true waited n m y w none before refl)
dsb_case false true waited n m y w none before = refl
dsb_case false false waited n m y w none before = before
