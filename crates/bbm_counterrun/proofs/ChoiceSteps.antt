-- The best choice of some numbers, with one number more.
use Rattle.bbm_counterrun.proofs.Common.{Kind, may_start, started, Read, BestAmong, Choice, FindsNumber, FirstCombine}
use Rattle.bbm_counterrun.proofs.Common.{plain_by, plan_of, first_events}
use Rattle.bbm_rules.proofs.Common.{◌≡◌, ℕ, ◌+◌, ◌<◌, ◌≤◌, arith, Bool, true, false, ◌||◌, ◌==◌, List, [], ◌∷◌, ◌++◌}
use Rattle.bbm_rules.proofs.Common.{length, get_or, take, reverse, Option, Some, None, sym, ◌∙◌, subst, ◌⊎◌, inl, inr}
use Rattle.bbm_rules.proofs.Common.{true≢false, false_from_ne_true, leb-false, leb-true, take_more, list_any-append}
use Rattle.bbm_rules.proofs.Common.{among, Heading, Event, Write}
use Rattle.bbm_counterrun.specs.Searching.{better, is_behind}
use Rattle.std.proofs.lemmas.Bool.Decides.{nat_tests}
use Rattle.bbm_lemmas.proofs.Bools.{first_true}
use Rattle.bbm_counterrun.proofs.PlainTest.{plain_parts}
use Rattle.bbm_counterrun.proofs.SearchPlain.{first_is}

among_more : (m n : ℕ) (numbers : List ℕ) → among m (numbers ++ n ∷ []) ≡ true → (among m numbers ≡ true) ⊎ (n ≡ m)
among_more m n numbers k = by (among m numbers) (sym (list_any-append (λ i. i == m) numbers (n ∷ [])) ∙ k)
  where
    by : (b : Bool) → (b || ((n == m) || false)) ≡ true → (b ≡ true) ⊎ (n ≡ m)
    by b k = grind (arith, nat_tests)

module _ (test : ℕ → Option ℕ → Bool) (numbers : List ℕ) (number : ℕ) where
  -- what holds of each of the numbers and of one more
  in_more : (P : ℕ → Type 0) (m : ℕ) → (among m numbers ≡ true → P m) → P number → among m (numbers ++ number ∷ []) ≡ true → P m
  in_more P m old new there = elim (among_more m number numbers there) [ inl k ↦ old k | inr same ↦ subst P same new ]

  pub best_stays : (best : Option Choice) → is_behind best number ≡ true → BestAmong test numbers best → BestAmong test (numbers ++ number ∷ []) best
  best_stays None k b = cc
  best_stays (Some c) k b = (
    b.0,
    λ m o less there. in_more (λ i. i < c.number → test i o ≡ false) m (λ old less. b.1 m o less old)
        (λ less. absurd (omega (arith, less, leb-true c.number number k))) there less,
  )

  pub best_next : (best after : Option Choice) (found : Option (Option ℕ)) → is_behind best number ≡ false → FirstCombine (test number) found
      → after ≡ better best number found → BestAmong test numbers best → BestAmong test (numbers ++ number ∷ []) after
  best_next best after found k f e b = subst (BestAmong test (numbers ++ number ∷ [])) (sym e) (by best found k f b)
    where
      by : (best : Option Choice) (found : Option (Option ℕ)) → is_behind best number ≡ false → FirstCombine (test number) found
          → BestAmong test numbers best → BestAmong test (numbers ++ number ∷ []) (better best number found)
      by None None k f b = λ m o there. in_more (λ i. test i o ≡ false) m (b m o) (f o) there
      by (Some c) None k f b = (
        b.0,
        λ m o less there. in_more (λ i. i < c.number → test i o ≡ false) m
            (λ old less. b.1 m o less old) (λ less. f o) there less,
      )
      by None (Some o) k f b = (
        f,
        λ m p less there. in_more (λ i. i < number → test i p ≡ false) m (λ old less. b m p old)
            (λ less. absurd (omega (arith, less))) there less,
      )
      by (Some c) (Some o) k f b = (
        f,
        λ m p less there. in_more (λ i. i < number → test i p ≡ false) m
            (λ old less. b.1 m p (omega (arith, less, leb-false c.number number k)) old) (λ less. absurd (omega (arith, less))) there less,
      )

pub ruleset betters = (best_stays, best_next)

-- the loop over the numbers
pub numbers_more : (test : ℕ → Option ℕ → Bool) (numbers : List ℕ) (i : ℕ) (best : Option Choice) → i < length numbers
    → BestAmong test (take i numbers ++ get_or numbers i 0 ∷ []) best → BestAmong test (take (i + 1) numbers) best
numbers_more test numbers i best within b =
    subst (λ (ns : List ℕ). BestAmong test ns best) (sym (take_more numbers i 0 within)) b

pub ruleset numbers = (numbers_more)

-- ---- all numbers

-- a plain plan can be started
module _ (heading : Heading) (es : List Event) (place value k p : ℕ) (kind : Kind) (reads : List Read) where
  starts_so : (h : List Event) (rs : List Read) (n : ℕ) (o : Option ℕ) → plain_by heading h (Write 0 place value) kind k p rs n o ≡ true
      → (at : ℕ) × (v : ℕ) × (may_start heading (first_events k h) (started heading k p kind n at v) n ≡ true)
  starts_so h [] n o e = (0, 0, first_true _ _ (plain_parts heading h (Write 0 place value) (plan_of k p kind n [] o) e).1)
  starts_so h (r ∷ rs) n o e =
      (r.place, r.value, first_true _ _ (plain_parts heading h (Write 0 place value) (plan_of k p kind n (r ∷ rs) o) e).1)

  pub every_number : (numbers : List ℕ) (best : Option Choice) → k ≤ length es
      → ((n now at v : ℕ) → may_start heading (reverse (take k es)) (started heading now p kind n at v) n ≡ true → among n numbers ≡ true)
      → BestAmong (plain_by heading (reverse es) (Write 0 place value) kind k p reads) numbers best
      → FindsNumber (plain_by heading (reverse es) (Write 0 place value) kind k p reads) best
  every_number numbers best le all = by best
    where
      listed : (n : ℕ) (o : Option ℕ) → plain_by heading (reverse es) (Write 0 place value) kind k p reads n o ≡ true → among n numbers ≡ true
      listed n o e =
          let s = starts_so (reverse es) reads n o e in
          all n k s.0 s.1 (subst (λ hs. may_start heading hs (started heading k p kind n s.0 s.1) n ≡ true) (sym (first_is es k le)) s.2)

      by : (best : Option Choice) → BestAmong (plain_by heading (reverse es) (Write 0 place value) kind k p reads) numbers best
          → FindsNumber (plain_by heading (reverse es) (Write 0 place value) kind k p reads) best
      by None b = λ n o. false_from_ne_true _ (λ e. true≢false (sym e ∙ b n o (listed n o e)))
      by (Some c) b = (b.0, λ n o less. false_from_ne_true _ (λ e. true≢false (sym e ∙ b.1 n o less (listed n o e))))

pub ruleset all_numbers = (every_number)
