-- Tests of every PE.
use Rattle.std.proofs.Common.{◌≡◌, ℕ, Bool, true, false, not, IsTrue, nat_lt, ◌&&◌, ◌<◌, ◌↔◌, zero, suc, refl, ap, sym}
use Rattle.std.proofs.Common.{◌∙◌, arith, inl, inr}
use Rattle.std.proofs.lemmas.Bool.{and_from, and_parts, cases_lt, false_from_ne_true, lt-ltb, ltb-true}
use Rattle.bbm_lemmas.proofs.Tautologies.{proved}
use Rattle.bbm_lemmas.proofs.Tautologies.Claim.{If, Is}
use Rattle.bbm_lemmas.specs.EveryPe.{every_pe}

-- two tests that say the same of each PE
pub every_same : (n : ℕ) (f g : ℕ → Bool) → ((p : ℕ) → p < n → f p ≡ g p) → every_pe n f ≡ every_pe n g
every_same zero f g same = refl
every_same (suc n) f g same =
    ap (λ (b : Bool). b && every_pe n f) (same n (omega arith))
    ∙ ap (λ (b : Bool). g n && b) (every_same n f g (λ p below. same p (omega arith)))

-- a weaker test holds where a stronger one does
pub every_wider : (n : ℕ) (f g : ℕ → Bool) → ((p : ℕ) → f p ≡ true → g p ≡ true) → every_pe n f ≡ true
    → every_pe n g ≡ true
every_wider zero f g wider h = h
every_wider (suc n) f g wider h =
    let parts : (f n ≡ true) × (every_pe n f ≡ true) = and_parts (f n) (every_pe n f) h in
    and_from (g n) (every_pe n g) (wider n parts.0) (every_wider n f g wider parts.1)

pub every_from : (n : ℕ) (f : ℕ → Bool) → ((p : ℕ) → p < n → f p ≡ true) → every_pe n f ≡ true
every_from zero f each = refl
every_from (suc n) f each =
    and_from (f n) (every_pe n f) (each n (omega arith)) (every_from n f (λ p below. each p (omega arith)))

pub every_at : (n : ℕ) (f : ℕ → Bool) → every_pe n f ≡ true → (p : ℕ) → p < n → f p ≡ true
every_at zero f h p below = absurd (omega arith)
every_at (suc n) f h p below =
    let parts : (f n ≡ true) × (every_pe n f ≡ true) = and_parts (f n) (every_pe n f) h in
    elim (cases_lt p n) [
      | inl under ↦ every_at n f parts.1 p under
      | inr over ↦ let same : p ≡ n = omega arith in rw same parts.0
    ]

-- a test of no PE isn't one of every PE
pub every_none : (n : ℕ) (f : ℕ → Bool) → 0 < n → ((p : ℕ) → f p ≡ false) → every_pe n f ≡ false
every_none zero f some none = absurd (omega arith)
every_none (suc n) f some none = ap (λ (b : Bool). b && every_pe n f) (none n)

-- no PE is missing exactly where the test holds of every one
not_missing : (below here : Bool) → below ≡ true → (below && not here) ≡ false → here ≡ true
not_missing = proved 2 (λ below here. If (Is below true) (If (Is (below && not here) false) (Is here true))) refl

missing_none : (below here : Bool) → (below ≡ true → here ≡ true) → (below && not here) ≡ false
missing_none = proved 2 (λ below here. If (If (Is below true) (Is here true)) (Is (below && not here) false)) refl

pub none_missing : (n : ℕ) (f missing : ℕ → Bool) (empty : Bool) → ((p : ℕ) → missing p ≡ (nat_lt p n && not (f p)))
    → (IsTrue empty ↔ ((p : ℕ) → missing p ≡ false)) → empty ≡ every_pe n f
none_missing n f missing true is tells =
    sym (every_from n f (λ p below. not_missing (nat_lt p n) (f p) (lt-ltb p n below) (sym (is p) ∙ tells.0 refl p)))
none_missing n f missing false is tells =
    sym (false_from_ne_true (every_pe n f) (λ h.
    let empty : false ≡ true = tells.1 (λ p.
    is p ∙ missing_none (nat_lt p n) (f p) (λ below. every_at n f h p (ltb-true p n below))) in
    cc))
