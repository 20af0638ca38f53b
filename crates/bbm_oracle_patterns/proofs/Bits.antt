-- Tests of flags, covers and barriers.
use Rattle.bbm_rules.proofs.Common.{◌≡◌, ℕ, ◌≤◌, Bool, true, false, ◌&&◌, not, nat_eq, nat_lt, refl, sym, ◌∙◌, ap}
use Rattle.bbm_rules.proofs.Common.{arith, false≢true, nat_tests, is_non, Inner, All, Stores, same_flag, and-true}
use Rattle.bbm_rules.proofs.Common.{and-false}
use Rattle.std.proofs.lemmas.Bool.{true≢false}
use Rattle.bbm_barriers.specs.Options.{publishes}
use Rattle.bbm_barriers.specs.declared.Dsb.{Dsb}
use Rattle.bbm_barriers.specs.declared.Domain.{Domain}
use Rattle.bbm_barriers.specs.declared.Domain.TheVariants.{Full, Outer, Non}
use Rattle.bbm_barriers.specs.declared.Types.{Types}
use Rattle.bbm_barriers.specs.declared.Types.TheVariants.{Loads}

pub same_flag-true : (a b : Bool) → same_flag a b ≡ true → b ≡ a
same_flag-true true b e = e
same_flag-true false false e = refl
same_flag-true false true e = absurd (false≢true e)

-- a barrier of a log with fewer PEs
pub publishes_wide : (domain : Domain) (types : Types) (q n p : ℕ) → n ≤ 128 → is_non domain ≡ false →
    (publishes (record { domain = domain; types = types }) q 128 p && nat_lt p n)
    ≡ publishes (record { domain = domain; types = types }) q n p
publishes_wide Full All q n p h e = grind (arith, nat_tests)
publishes_wide Full Stores q n p h e = grind (arith, nat_tests)
publishes_wide Full Loads q n p h e = refl
publishes_wide Inner All q n p h e = grind (arith, nat_tests)
publishes_wide Inner Stores q n p h e = grind (arith, nat_tests)
publishes_wide Inner Loads q n p h e = refl
publishes_wide Outer All q n p h e = grind (arith, nat_tests)
publishes_wide Outer Stores q n p h e = grind (arith, nat_tests)
publishes_wide Outer Loads q n p h e = refl
publishes_wide Non types q n p h e = absurd (true≢false e)

pub publishes_near : (types : Types) (q n p : ℕ) →
    publishes (record { domain = Non; types = types }) q 128 p
    ≡ publishes (record { domain = Non; types = types }) q n p
publishes_near All q n p = refl
publishes_near Stores q n p = refl
publishes_near Loads q n p = refl

pub wide : (dsb : Dsb) (q n p : ℕ) (cnp m a r : Bool) → n ≤ 128 → is_non dsb.domain ≡ false → m ≡ publishes dsb q 128 p
    → a ≡ nat_lt p n →
    r ≡ (m && a) → r ≡ (publishes dsb q n p && not (cnp && is_non dsb.domain))
wide dsb q n p cnp m a r h e m_is a_is r_is =
    r_is ∙ ap (λ (b : Bool). b && a) m_is ∙ ap (λ (b : Bool). publishes dsb q 128 p && b) a_is
    ∙ publishes_wide dsb.domain dsb.types q n p h e
    ∙ sym (and-true (publishes dsb q n p))
    ∙ ap (λ (b : Bool). publishes dsb q n p && not b) (sym (and-false cnp) ∙ ap (λ (b : Bool). cnp && b) (sym e))

pub near : (dsb : Dsb) (q n p : ℕ) (cnp m : Bool) → is_non dsb.domain ≡ true → cnp ≡ false → m ≡ publishes dsb q 128 p →
    m ≡ (publishes dsb q n p && not (cnp && is_non dsb.domain))
near dsb q n p cnp m e c m_is =
    m_is ∙ at dsb.domain e ∙ sym (and-true (publishes dsb q n p))
    ∙ ap (λ (b : Bool). publishes dsb q n p && not (b && is_non dsb.domain)) (sym c)
  where
    at : (domain : Domain) → is_non domain ≡ true
        → publishes (record { domain = domain; types = dsb.types }) q 128 p
        ≡ publishes (record { domain = domain; types = dsb.types }) q n p
    at Non e = publishes_near dsb.types q n p
    at Full e = absurd (false≢true e)
    at Inner e = absurd (false≢true e)
    at Outer e = absurd (false≢true e)

pub nowhere : (dsb : Dsb) (q n p : ℕ) (cnp m : Bool) → is_non dsb.domain ≡ true → cnp ≡ true → m ≡ false →
    m ≡ (publishes dsb q n p && not (cnp && is_non dsb.domain))
nowhere dsb q n p cnp m e c m_is =
    m_is ∙ sym (and-false (publishes dsb q n p))
    ∙ ap (λ (b : Bool). publishes dsb q n p && not b) (sym (ap (λ (b : Bool). b && is_non dsb.domain) c ∙ e))

pub eq-comm : (m n : ℕ) → nat_eq m n ≡ nat_eq n m
eq-comm m n = grind (arith, nat_tests)
