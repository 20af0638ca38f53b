-- The least of a list with one more number behind, and the one number of a list.
use Rattle.bbm_rules.proofs.Common.{◌≡◌, ℕ, ◌<◌, min, Bool, true, false, ◌&&◌, eqb, get_or, length, map, List, [], ◌∷◌}
use Rattle.bbm_rules.proofs.Common.{◌++◌, Option, Some, None, refl, sym, ap, ◌∙◌, arith, list_all, and_parts, eq-eqb}
use Rattle.bbm_rules.proofs.Common.{least, one_number, tag_number}
use Rattle.std.specs.Option.{unwrap_or}
use Rattle.std.proofs.lemmas.Bool.{cond-true, cond-false}
use Rattle.std.proofs.lemmas.List.Folds.{list_all-map}

pub least-push : (ns : List ℕ) (n : ℕ) → least (ns ++ n ∷ []) ≡ Some (min n (unwrap_or (least ns) n))
least-push [] n = refl
least-push (m ∷ ns) n =
    ap (λ (o : Option ℕ). Some (min m (unwrap_or o m))) (least-push ns n) ∙ by_case (least ns)
  where
    by_case : (o : Option ℕ) → Some (min m (min n (unwrap_or o n))) ≡ Some (min n (min m (unwrap_or o m)))
    by_case None = ap (λ (k : ℕ). Some k) (omega arith)
    by_case (Some k) = ap (λ (k : ℕ). Some k) (omega arith)

-- each value has the number of the first
pub only-one : (vs : List ℕ) (n : ℕ) → 0 < length vs → n ≡ tag_number (get_or vs 0 0)
    → list_all (λ v. eqb (tag_number v) n) vs ≡ true
    → Some n ≡ one_number (map tag_number vs)
only-one [] n lt e all = absurd (omega arith)
only-one (v ∷ vs) n lt e all =
    ap (λ (k : ℕ). Some k) e
    ∙ sym (cond-true (list_all (λ m. eqb m (tag_number v)) (map tag_number vs)) (Some (tag_number v)) None
    (list_all-map (λ m. eqb m (tag_number v)) tag_number vs
    ∙ ap (λ (k : ℕ). list_all (λ w. eqb (tag_number w) k) vs) (sym e)
    ∙ (and_parts (eqb (tag_number v) n) (list_all (λ w. eqb (tag_number w) n) vs) all).1))

pub several : (vs : List ℕ) (n : ℕ) → 0 < length vs → n ≡ tag_number (get_or vs 0 0)
    → list_all (λ v. eqb (tag_number v) n) vs ≡ false
    → None ≡ one_number (map tag_number vs)
several [] n lt e all = absurd (omega arith)
several (v ∷ vs) n lt e all =
    sym (cond-false (list_all (λ m. eqb m (tag_number v)) (map tag_number vs)) (Some (tag_number v)) None
    (list_all-map (λ m. eqb m (tag_number v)) tag_number vs
    ∙ ap (λ (k : ℕ). list_all (λ w. eqb (tag_number w) k) vs) (sym e)
    ∙ sym (ap (λ (b : Bool). b && list_all (λ w. eqb (tag_number w) n) vs) (eq-eqb (tag_number v) n (sym e))) ∙ all))
