-- The steps of the search over combines.
use Rattle.bbm_counterrun.proofs.Common.{not_from_true, Entry, is_stage2, Answer, by_combine, FirstCombine, FirstIn}
use Rattle.bbm_counterrun.proofs.Common.{forbidden_by, joins, outlives_by, combine_within}
use Rattle.bbm_rules.proofs.Common.{◌≡◌, ℕ, ◌≤◌, Bool, true, false, ◌&&◌, List, Option, Some, None, arith, ltb-true}
use Rattle.bbm_rules.proofs.Common.{not_from_false, Heading}
use Rattle.std.proofs.lemmas.Bool.Decides.{nat_tests}

none_before_none : (o : Option ℕ) → by_combine o None ≡ true → ⊥
none_before_none None k = cc
none_before_none (Some n) k = cc

module _ (heading : Heading) (answers : List Answer) (x : Entry) (from count : ℕ) where
  -- the test of a combine
  abbrev fits : Option ℕ → Bool
  fits o = combine_within from count o && outlives_by heading answers x from count o

  abbrev joins_so : ℕ → Bool
  joins_so n = is_stage2 x.kind && joins heading answers x from count n

  fits_so : (n : ℕ) → from ≤ n → n ≤ count → joins_so n ≡ true → fits (Some n) ≡ true
  fits_so n low high k = grind (arith, nat_tests)

  not_fits : (n : ℕ) → (from ≤ n → n ≤ count → joins_so n ≡ false) → fits (Some n) ≡ false
  not_fits n unfit = grind (arith, nat_tests)

  pub choose_none : forbidden_by heading answers from count x ≡ false → FirstCombine fits (Some None)
  choose_none free = (not_from_false _ free, λ other before. absurd (none_before_none other before))

  pub choose_some : (n : ℕ) → forbidden_by heading answers from count x ≡ true → FirstIn joins_so from count (Some n) → FirstCombine fits (Some (Some n))
  choose_some n gone f = (fits_so n f.1 f.2 f.0, by)
    where
      by : (other : Option ℕ) → by_combine other (Some n) ≡ true → fits other ≡ false
      by None k = not_from_true _ gone
      by (Some m) k = not_fits m (λ low high. f.3 m low (ltb-true m n k))

  pub choose_no : forbidden_by heading answers from count x ≡ true → FirstIn joins_so from count None → FirstCombine fits None
  choose_no gone f None = not_from_true _ gone
  choose_no gone f (Some m) = not_fits m (f m)

pub ruleset choices = (choose_none, choose_some, choose_no)
