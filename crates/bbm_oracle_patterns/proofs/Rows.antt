-- The sets of a relation.
use Rattle.bbm_rules.proofs.Common.{◌≡◌, ℕ, zero, suc, ◌<◌, Bool, false, ◌&&◌, ◌||◌, not, nat_eq, List, [], ◌∷◌, length}
use Rattle.bbm_rules.proofs.Common.{get_or, refl, sym, ◌∙◌, ap, arith, inl, inr, cases_eq, eq-eqb, ne_eqb, PeMask}
use Rattle.bbm_rules.proofs.Common.{and-false, and-true, or-false}
use Rattle.std.proofs.Common.{set, replicate}
use Rattle.bbm_regimes.specs.PeMask.{pe_in}
use Rattle.bbm_oracle_patterns.specs.Relation.{row_has}

pub row_at : (ms : List PeMask) (i p : ℕ) (d : PeMask) → i < length ms → pe_in (get_or ms i d) p ≡ row_has ms i p
row_at [] i p d h = absurd (omega arith)
row_at (m ∷ ms) zero p d h = refl
row_at (m ∷ ms) (suc i) p d h = row_at ms i p d (omega arith)

-- the same, for an index that is known to be this one
pub row_is : (ms : List PeMask) (i j p : ℕ) (d : PeMask) → i < length ms → i ≡ j
    → pe_in (get_or ms i d) p ≡ row_has ms j p
row_is ms i j p d h e = row_at ms i p d h ∙ ap (λ (n : ℕ). row_has ms n p) e

row_here : (ms : List PeMask) (i : ℕ) (m : PeMask) (p : ℕ) → i < length ms → row_has (set ms i m) i p ≡ pe_in m p
row_here [] i m p h = absurd (omega arith)
row_here (x ∷ ms) zero m p h = refl
row_here (x ∷ ms) (suc i) m p h = row_here ms i m p (omega arith)

row_there : (ms : List PeMask) (i : ℕ) (m : PeMask) (q p : ℕ) → (i ≡ q → ⊥) → row_has (set ms i m) q p ≡ row_has ms q p
row_there [] i m q p other = refl
row_there (x ∷ ms) zero m zero p other = absurd (other refl)
row_there (x ∷ ms) zero m (suc q) p other = refl
row_there (x ∷ ms) (suc i) m zero p other = refl
row_there (x ∷ ms) (suc i) m (suc q) p other = row_there ms i m q p (λ e. other (ap suc e))

-- no set has a PE where each is empty
pub rows_none : (n : ℕ) (m : PeMask) → ((p : ℕ) → pe_in m p ≡ false) → (q p : ℕ) → row_has (replicate n m) q p ≡ false
rows_none zero m e q p = refl
rows_none (suc n) m e zero p = e p
rows_none (suc n) m e (suc q) p = rows_none n m e q p

-- one set gets more PEs
pub rows_add : (ms : List PeMask) (i : ℕ) (m d : PeMask) (more : ℕ → Bool) → i < length ms →
    ((p : ℕ) → pe_in m p ≡ (pe_in (get_or ms i d) p || more p)) →
    (q p : ℕ) → row_has (set ms i m) q p ≡ (row_has ms q p || (nat_eq i q && more p))
rows_add ms i m d more h is q p =
    elim (cases_eq i q) [
      | inl same ↦
          rw (eq-eqb i q same, ← same)
          (row_here ms i m p h ∙ is p ∙ ap (λ (b : Bool). b || more p) (row_at ms i p d h))
      | inr other ↦ rw (ne_eqb i q other) (row_there ms i m q p other ∙ sym (or-false (row_has ms q p)))
    ]

-- one set is emptied
pub rows_empty : (ms : List PeMask) (i : ℕ) (m : PeMask) → i < length ms → ((p : ℕ) → pe_in m p ≡ false) →
    (q p : ℕ) → row_has (set ms i m) q p ≡ (row_has ms q p && not (nat_eq i q))
rows_empty ms i m h none q p =
    elim (cases_eq i q) [
      | inl same ↦
          rw (eq-eqb i q same, ← same)
          (row_here ms i m p h ∙ none p ∙ sym (and-false (row_has ms i p)))
      | inr other ↦ rw (ne_eqb i q other) (row_there ms i m q p other ∙ sym (and-true (row_has ms q p)))
    ]
