-- The least number that passes by one of the first indices.
use Rattle.bbm_tree_index.proofs.Common.{IsLeast, Before, LeastOf, lesser}
use Rattle.bbm_rules.proofs.Common.{◌≡◌, ℕ, ◌≤◌, ◌+◌, ◌⊎◌, Bool, true, false, List, Option, Some, None, length, nat_lt}
use Rattle.bbm_rules.proofs.Common.{slice_get, inl, inr, refl, sym, ◌∙◌, subst, if◌then◌else◌, arith, ltb-true}
use Rattle.bbm_rules.proofs.Common.{ltb-false, same_Some, slice_get_within}

pub least_same : (P Q : ℕ → Type 0) (o : Option ℕ) → ((m : ℕ) → P m → Q m) → ((m : ℕ) → Q m → P m) → LeastOf P o → LeastOf Q o
least_same P Q None to from h = λ m q. h m (from m q)
least_same P Q (Some n) to from h = record { that = to n h.that; least = λ m q. h.least m (from m q) }

module _ (P : ℕ → ℕ → Type 0) (n : ℕ) where
  split : (m : ℕ) → Before P (n + 1) m → Before P n m ⊎ P n m
  split m b = grind arith

  least_of : (m : ℕ) → Before P (n + 1) m → ((i : ℕ) → Before P n i → m ≤ i) → ((i : ℕ) → P n i → m ≤ i) → IsLeast (Before P (n + 1)) m
  least_of m that earlier newer = record { that = that; least = λ i b. elim (split i b) [ inl old ↦ earlier i old | inr new ↦ newer i new ] }

  earlier : (m : ℕ) → Before P n m → Before P (n + 1) m
  earlier m b = record { index = b.index; below = omega (arith, b.below); that = b.that }

  newer : (m : ℕ) → P n m → Before P (n + 1) m
  newer m p = record { index = n; below = omega arith; that = p }

  least_next : (o o' : Option ℕ) → LeastOf (Before P n) o → LeastOf (P n) o' → LeastOf (Before P (n + 1)) (lesser o o')
  least_next None None h k = λ m b. elim (split m b) [ inl old ↦ h m old | inr new ↦ k m new ]
  least_next None (Some y) h k = least_of y (newer y k.that) (λ m b. absurd (h m b)) k.least
  least_next (Some x) None h k = least_of x (earlier x h.that) h.least (λ m p. absurd (k m p))
  least_next (Some x) (Some y) h k = by (nat_lt y x) refl
    where
      by : (b : Bool) → nat_lt y x ≡ b → LeastOf (Before P (n + 1)) (if b then Some y else Some x)
      by true t = least_of y (newer y k.that) (λ m b. omega (arith, ltb-true y x t, h.least m b)) k.least
      by false t = least_of x (earlier x h.that) h.least (λ m p. omega (arith, ltb-false y x t, k.least m p))

  pub least_step : (o o' r : Option ℕ) → r ≡ lesser o o' → LeastOf (Before P n) o → LeastOf (P n) o' → LeastOf (Before P (n + 1)) r
  least_step o o' r e h k = subst (LeastOf (Before P (n + 1))) (sym e) (least_next o o' h k)

-- what passes by an item of a list
module _ {X : Type 0} (xs : List X) (P : ℕ → X → ℕ → Type 0) where
  abbrev pub AtItem : ℕ → ℕ → Type 0
  AtItem j a = (x : X) × (slice_get xs j ≡ Some x) × P j x a

  -- one item more
  pub item_step : (j : ℕ) (x : X) (o o' r : Option ℕ) → slice_get xs j ≡ Some x → r ≡ lesser o o'
      → LeastOf (Before AtItem j) o → LeastOf (P j x) o' → LeastOf (Before AtItem (j + 1)) r
  item_step j x o o' r at e h k = least_step AtItem j o o' r e h (least_same (P j x) (AtItem j) o' (λ a p. (x, at, p))
      (λ a w. subst (λ y. P j y a) (same_Some w.0 x (sym w.1 ∙ at)) w.2) k)

  -- all items
  pub item_all : (Q : ℕ → Type 0) (n : ℕ) (o : Option ℕ) → length xs ≤ n → ((j a : ℕ) → AtItem j a → Q a)
      → ((a : ℕ) → Q a → (j : ℕ) × AtItem j a) → LeastOf (Before AtItem n) o → LeastOf Q o
  item_all Q n o end to from = least_same (Before AtItem n) Q o (λ a b. to b.index a b.that)
      (λ a q. let i = from a q in record { index = i.0; below = omega (arith, slice_get_within xs i.0 i.1.0 i.1.1, end); that = i.1 })
