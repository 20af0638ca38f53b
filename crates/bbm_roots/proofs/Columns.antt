-- A column of registers at one PE, read and written.
use Rattle.bbm_roots.proofs.Common.{◌≡◌, ℕ, ⊎_elim, ◌++◌, ◌+◌, zero, suc, ◌<◌, ◌≤◌, ◌∷◌, [], List, nat_eq, length, set}
use Rattle.bbm_roots.proofs.Common.{get_or, take, refl, arith, cond, nat_le, ◌==◌, sym, ◌∙◌, ap, subst, cases_lt}
use Rattle.bbm_roots.proofs.Common.{nat_tests, eqb-suc-zero, eqb-zero-suc, eqb-suc-suc, loads_in, newest, RootValue}
use Rattle.arrayvec.specs.ArrayVec.{ArrayVec}
use Rattle.bbm_roots.specs.Columns.{Column}

pub loads_in-get_or : (vs : Column) (p : ℕ) (d : ArrayVec RootValue) → p < length vs → loads_in vs p ≡ (get_or vs p d).items
loads_in-get_or [] p d h = absurd (omega arith)
loads_in-get_or (v ∷ vs) zero d h = refl
loads_in-get_or (v ∷ vs) (suc p) d h = loads_in-get_or vs p d (omega arith)

-- one element changed by f changes the values of one PE by f
pub loads_in-set : (f : List RootValue → List RootValue) (vs : Column) (i : ℕ) (new : ArrayVec RootValue) (p : ℕ) → i < length vs →
    new.items ≡ f (loads_in vs i) → loads_in (set vs i new) p ≡ cond (nat_eq p i) (f (loads_in vs p)) (loads_in vs p)
loads_in-set f [] i v p h e = absurd (omega arith)
loads_in-set f (w ∷ ws) zero v zero h e = e
loads_in-set f (w ∷ ws) zero v (suc p) h e = rw (eqb-suc-zero p) refl
loads_in-set f (w ∷ ws) (suc i) v zero h e = rw (eqb-zero-suc i) refl
loads_in-set f (w ∷ ws) (suc i) v (suc p) h e = rw (eqb-suc-suc p i) (loads_in-set f ws i v p (omega arith) e)

pub take-one : (xs : List RootValue) → take 1 xs ≡ newest xs
take-one [] = refl
take-one (x ∷ xs) = refl

-- what was read at i, and the column with it changed by f
pub changed : (f : List RootValue → List RootValue) (vs : Column) (i pe : ℕ) (old new : ArrayVec RootValue) → i ≡ pe → pe < length vs →
    old ≡ get_or vs i old → new.items ≡ f old.items → (p : ℕ) →
    loads_in (set vs i new) p ≡ cond (nat_eq p pe) (f (loads_in vs p)) (loads_in vs p)
changed f vs i pe old new at within is e p =
    let here : loads_in vs i ≡ old.items = loads_in-get_or vs i old (omega arith) ∙ sym (ap (λ (v : ArrayVec RootValue). v.items) is) in
    subst (λ (k : ℕ). loads_in (set vs i new) p ≡ cond (nat_eq p k) (f (loads_in vs p)) (loads_in vs p)) at
    (loads_in-set f vs i new p (omega arith) (e ∙ ap f (sym here)))

pub read : (vs : Column) (i pe : ℕ) (old : ArrayVec RootValue) → i ≡ pe → pe < length vs → old ≡ get_or vs i old →
    loads_in vs pe ≡ old.items
read vs i pe old at within is =
    subst (λ (k : ℕ). loads_in vs k ≡ old.items) at
    (loads_in-get_or vs i old (omega arith) ∙ sym (ap (λ (v : ArrayVec RootValue). v.items) is))

-- whether nine values are there
pub full : (n : ℕ) → n ≤ 9 → (n == 9) ≡ nat_le 9 n
full n h = grind (arith, nat_tests)

pub loads_in-push : (vs : Column) (v : ArrayVec RootValue) (p : ℕ) → p < length vs → loads_in (vs ++ v ∷ []) p ≡ loads_in vs p
loads_in-push [] v p h = absurd (omega arith)
loads_in-push (w ∷ ws) v zero h = refl
loads_in-push (w ∷ ws) v (suc p) h = loads_in-push ws v p (omega arith)

pub loads_in-last : (vs : Column) (v : ArrayVec RootValue) → loads_in (vs ++ v ∷ []) (length vs) ≡ v.items
loads_in-last [] v = refl
loads_in-last (w ∷ ws) v = loads_in-last ws v

-- one more PE, with these values
pub grown : (xs : List RootValue) (vs ws : Column) (v : ArrayVec RootValue) → ws ≡ vs ++ v ∷ [] → v.items ≡ xs →
    ((p : ℕ) → p < length vs → loads_in vs p ≡ xs) → (p : ℕ) → p < length vs + 1 → loads_in ws p ≡ xs
grown xs vs ws v is here before p lt =
    rw is (⊎_elim (λ (less : p < length vs). loads_in-push vs v p less ∙ before p less)
    (λ (last : length vs ≤ p). let at : p ≡ length vs = omega arith in rw at (loads_in-last vs v ∙ here))
    (cases_lt p (length vs)))

pub ruleset growing = (grown)
