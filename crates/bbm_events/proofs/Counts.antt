-- The number of pages of a root is 1 to 16.
use Rattle.bbm_events.proofs.Common.{◌≡◌, ℕ, ◌≤◌, Bool, true, false, cond, ◌==◌, subst, sym, arith, and_parts, eqb-true}
use Rattle.bbm_events.proofs.Common.{HypWorld, Hyp, World, world_ok, Heading, heading_ok}
use Rattle.std.proofs.Common.{◌||◌, IsTrue, inl, inr, true≢false}
use Rattle.std.proofs.lemmas.Bool.{or_cases}

one_or : (n m : ℕ) (rest : Bool) → (rest ≡ true → (1 ≤ n) × (n ≤ 16)) → 1 ≤ m → m ≤ 16 → (rest || n == m) ≡ true → (1 ≤ n) × (n ≤ 16)
one_or n m rest by low high k =
    elim (or_cases rest (n == m) k) [
      | inl e ↦ by e
      | inr e ↦ let same : n ≡ m = eqb-true n m e in (omega arith, omega arith)
    ]

counts_of : (n : ℕ) → (n == 1 || n == 2 || n == 4 || n == 8 || n == 16) ≡ true → (1 ≤ n) × (n ≤ 16)
counts_of n k =
    one_or n 16 _ (one_or n 8 _ (one_or n 4 _ (one_or n 2 (n == 1) (λ e. one_or n 1 false (λ f. absurd (true≢false (sym f))) (omega arith) (omega arith) e) (omega arith) (omega arith)) (omega arith) (omega arith)) (omega arith) (omega arith)) (omega arith) (omega arith) k

counts_by : (n : ℕ) (b : Bool) → cond b (n == 1) (n == 1 || n == 2 || n == 4 || n == 8 || n == 16) ≡ true → (1 ≤ n) × (n ≤ 16)
counts_by n true k = let same : n ≡ 1 = eqb-true n 1 k in (omega arith, omega arith)
counts_by n false k = counts_of n k

pub hyp_counts : (h : Heading) (w : HypWorld) → IsTrue (heading_ok h) → h.world ≡ Hyp w → (1 ≤ w.s2_pages) × (w.s2_pages ≤ 16)
hyp_counts h w k e =
    counts_by w.s2_pages (w.s2_start == 0) (and_parts _ _ (subst (λ (x : World). world_ok x ≡ true) e (and_parts _ _ k).1)).1
