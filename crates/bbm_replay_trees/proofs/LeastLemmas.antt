-- The least number of a list, by what is in it.
use Rattle.bbm_rules.proofs.Common.{◌≡◌, ℕ, ◌≤◌, min, List, [], ◌∷◌, Option, Some, None, unwrap_or, refl, ap, subst}
use Rattle.bbm_rules.proofs.Common.{inl, inr, arith, cases_lt, least, In}
use Rattle.bbm_tree_index.specs.Attaching.{IsLeast}
use Rattle.bbm_tree_index.specs.LeastPages.{LeastOf}
use Rattle.bbm_tree_index.proofs.Leasts.{least_same}

least_of : (ms : List ℕ) → LeastOf (In ms) (least ms)
least_of [] = λ m i. i
least_of (n ∷ ms) = more (least ms) (least_of ms)
  where
    more : (o : Option ℕ) → LeastOf (In ms) o → IsLeast (In (n ∷ ms)) (min n (unwrap_or o n))
    more None none = record {
      that = inl (omega arith);
      least = λ m i. elim i [
        | inl same ↦ omega arith
        | inr j ↦ absurd (none m j)
      ];
    }
    more (Some k) s = record {
      that = elim (cases_lt n k) [
        | inl less ↦ inl (omega arith)
        | inr above ↦ (let same : k ≡ min n k = omega arith in inr (subst (In ms) same s.that))
      ];
      least = λ m i. elim i [
        | inl same ↦ omega arith
        | inr j ↦ (let less : k ≤ m = s.least m j in omega arith)
      ];
    }

only : (passes : ℕ → Type 0) (k o : Option ℕ) → LeastOf passes k → LeastOf passes o → k ≡ o
only passes None None f g = refl
only passes None (Some n) f g = absurd (f n g.that)
only passes (Some k) None f g = absurd (g k f.that)
only passes (Some k) (Some n) f g =
    let one : k ≤ n = f.least n g.that in
    let two : n ≤ k = g.least k f.that in ap Some (omega arith)

-- the least of a list whose elements are the numbers that pass
pub least_is : (passes : ℕ → Type 0) (ms : List ℕ) → ((m : ℕ) → In ms m → passes m) → ((m : ℕ) → passes m → In ms m)
    → (o : Option ℕ) → LeastOf passes o → least ms ≡ o
least_is passes ms from to o f = only passes (least ms) o (least_same (In ms) passes (least ms) from to (least_of ms)) f
