-- What a walk leaves: one entry, where each of its steps can be taken.
use Rattle.bbm_counterrun.proofs.Common.{Machine, Entry, Living, State, step_to, combined, extended, is_stage2}
use Rattle.bbm_counterrun.proofs.Common.{may_extend, may_start, Plan, Read, combine_of, drops, extends, made_by}
use Rattle.bbm_counterrun.proofs.Common.{walk_of, extended_by, may_extend_by, may_walk, started_by, walked_by}
use Rattle.bbm_rules.proofs.Common.{◌≡◌, ℕ, suc, ◌+◌, ◌<◌, arith, not, ◌==◌, List, [], ◌∷◌, ◌++◌, length, find, filter}
use Rattle.bbm_rules.proofs.Common.{Option, Some, refl, ◌∙◌, ap, ◌>>=◌, if_so, Heading, Event, Drop}
use Rattle.std.proofs.lemmas.Bool.Decides.{nat_tests}
use Rattle.bbm_lemmas.proofs.Words.{same_number}
use Rattle.bbm_tlb_machine.specs.MachineRun.{entry_at}
use Rattle.bbm_counterrun.proofs.Following.{run_all, run_to, then_all, then_so}
use Rattle.bbm_counterrun.proofs.OneEntry.{none_kept, one_kept}

-- the entries of a walk from this one on, the newest first, before others; and how many were made
abbrev tower : ℕ → Entry → List Read → List Living → List Living
tower n x [] ls = record { number = n; entry = x } ∷ ls
tower n x (r ∷ rs) ls = tower (suc n) (extended x r.place r.value) rs (record { number = n; entry = x } ∷ ls)

abbrev top : ℕ → List Read → ℕ
top n [] = n
top n (r ∷ rs) = top (suc n) rs

top_is : (n : ℕ) (rs : List Read) → top n rs ≡ n + length rs
top_is n [] = omega arith
top_is n (r ∷ rs) = top_is (suc n) rs ∙ omega arith

abbrev kept_at : List Event → List Living → ℕ → State
kept_at h ls n = record { log = h; living = ls; made = n }

-- ---- entries with a number

entry_first : (h : List Event) (n : ℕ) (x : Entry) (ls : List Living) → entry_at (kept_at h (record { number = n; entry = x } ∷ ls) n) n ≡ Some x
entry_first h n x ls = rw (same_number n)

-- the newer entries have other numbers
not_found_first : (n m : ℕ) (x : Entry) (ls : List Living) → n < m
    → find (λ (l : Living). l.number == n) (record { number = m; entry = x } ∷ ls) ≡ find (λ (l : Living). l.number == n) ls
not_found_first n m x ls less = grind (arith, nat_tests)

found_below : (n m : ℕ) (x : Entry) (rs : List Read) (ls : List Living) → n < m
    → find (λ (l : Living). l.number == n) (tower m x rs ls) ≡ find (λ (l : Living). l.number == n) ls
found_below n m x [] ls less = not_found_first n m x ls less
found_below n m x (r ∷ rs) ls less =
    found_below n (suc m) (extended x r.place r.value) rs (record { number = m; entry = x } ∷ ls) (omega (arith, less))
    ∙ not_found_first n m x ls less

first_is_left : (n m : ℕ) (x : Entry) (ls : List Living) → n < m
    → filter (λ (l : Living). not (l.number == n)) (record { number = m; entry = x } ∷ ls)
    ≡ record { number = m; entry = x } ∷ filter (λ (l : Living). not (l.number == n)) ls
first_is_left n m x ls less = grind (arith, nat_tests)

left_above : (n m : ℕ) (x : Entry) (rs : List Read) (ls : List Living) → n < m
    → filter (λ (l : Living). not (l.number == n)) (tower m x rs ls) ≡ tower m x rs (filter (λ (l : Living). not (l.number == n)) ls)
left_above n m x [] ls less = first_is_left n m x ls less
left_above n m x (r ∷ rs) ls less =
    left_above n (suc m) (extended x r.place r.value) rs (record { number = m; entry = x } ∷ ls) (omega (arith, less))
    ∙ ap (tower (suc m) (extended x r.place r.value) rs) (first_is_left n m x ls less)

module _ (heading : Heading) where
  -- a drop of the oldest
  drop_oldest : (h : List Event) (n made : ℕ) (x y : Entry) (rs : List Read)
      → step_to heading (kept_at h (tower (suc n) y rs (record { number = n; entry = x } ∷ [])) made) (Machine (Drop n))
      ≡ Some (kept_at h (tower (suc n) y rs []) made)
  drop_oldest h n made x y rs =
      let alone : List Living = record { number = n; entry = x } ∷ [] in
      rw (found_below n (suc n) y rs alone (omega arith), left_above n (suc n) y rs alone (omega arith), same_number n)

  fall : (h : List Event) (n made : ℕ) (x : Entry) (rs : List Read)
      → run_to heading (kept_at h (tower n x rs []) made) (drops n (length rs))
      ≡ Some (kept_at h (record { number = top n rs; entry = extended_by x rs } ∷ []) made)
  fall h n made x [] = refl
  fall h n made x (r ∷ rs) =
      ap (λ (o : Option State). o >>= (λ s. run_to heading s (drops (suc n) (length rs)))) (drop_oldest h n made x (extended x r.place r.value) rs)
      ∙ fall h (suc n) made (extended x r.place r.value) rs

  climb : (h : List Event) (n : ℕ) (x : Entry) (rs : List Read) (ls : List Living)
      → run_to heading (kept_at h (record { number = n; entry = x } ∷ ls) n) (extends n rs)
      ≡ if_so (may_extend_by heading h x rs) (kept_at h (tower n x rs ls) (top n rs))
  climb h n x [] ls = refl
  climb h n x (r ∷ rs) ls =
      rw (entry_first h n x ls) (then_so (may_extend heading h x r.place r.value) (may_extend_by heading h (extended x r.place r.value) rs) _ _ _
      (climb h (suc n) (extended x r.place r.value) rs (record { number = n; entry = x } ∷ ls)))

  -- the extends and the drops together
  up_and_down : (h : List Event) (x : Entry) (rs : List Read)
      → run_to heading (kept_at h (record { number = 1; entry = x } ∷ []) 1) (extends 1 rs ++ drops 1 (length rs))
      ≡ if_so (may_extend_by heading h x rs) (one_kept h (suc (length rs)) (extended_by x rs))
  up_and_down h x rs =
      let count : top 1 rs ≡ suc (length rs) = top_is 1 rs ∙ omega arith in
      run_all heading _ (kept_at h (tower 1 x rs []) (top 1 rs)) _ (extends 1 rs) (drops 1 (length rs)) _ (climb h 1 x rs [])
      (fall h 1 (top 1 rs) x rs ∙ ap (λ k. Some (kept_at h (record { number = k; entry = extended_by x rs } ∷ []) k)) count)

  pub past_walk : (h : List Event) (plan : Plan) → length h ≡ plan.starts
      → run_to heading (none_kept h) (walk_of plan) ≡ if_so (may_walk heading h plan) (one_kept h (made_by plan) (walked_by heading plan))
  past_walk h plan e =
      rw e (then_so (may_start heading h (started_by heading plan) plan.number) (may_extend_by heading h (started_by heading plan) plan.rest)
      _ _ _ (up_and_down h (started_by heading plan) plan.rest))

  pub past_combine : (h : List Event) (n now : ℕ) (x : Entry) → length h ≡ now
      → run_to heading (one_kept h n x) (combine_of n) ≡ if_so (is_stage2 x.kind) (one_kept h (suc n) (combined now x))
  past_combine h n now x e =
      rw (e, entry_first h n x []) (then_all (is_stage2 x.kind) _ _ _
      (ap (λ (o : Option State). o >>= (λ s. Some s)) (drop_oldest h n (suc n) x (combined now x) [])))
