-- The steps of the search for the first moment at which an entry can be combined.
use Rattle.bbm_counterrun.proofs.Common.{not_from_true, Entry, age_by, must_leave, combined, takes_by, Answer, FirstIn}
use Rattle.bbm_counterrun.proofs.Common.{blocks, forbidden_by, joins}
use Rattle.bbm_rules.proofs.Common.{◌≡◌, ℕ, ◌+◌, ◌<◌, ◌≤◌, arith, Bool, true, false, ◌&&◌, not, nat_le, nat_lt, List}
use Rattle.bbm_rules.proofs.Common.{length, get_or, take, Option, Some, None, sym, ◌∙◌, ap, true≢false, and_from}
use Rattle.bbm_rules.proofs.Common.{and_left, and_right, false_from_ne_true, not_from_false, or_from, list_any_more}
use Rattle.bbm_rules.proofs.Common.{any_finds, any_found, Combined, Family, VmAll1, any, Heading, Scope, reaches}
use Rattle.std.proofs.lemmas.Bool.Decides.{nat_tests}
use Rattle.std.proofs.lemmas.List.Folds.{list_any_at}
use Rattle.bbm_lemmas.proofs.Tests.{any_never, any_same}

-- ---- what is forbidden where the entry is combined later

age_grows : (family : Family) (since m n : ℕ) → m ≤ n → age_by family Combined since m ≤ age_by family Combined since n
age_grows VmAll1 since m n le = le
age_grows _ since m n le = omega arith

takes_same : (scope : Option Scope) (vmid : Option ℕ) (x : Entry) (m n : ℕ) → takes_by scope vmid (combined n x) ≡ takes_by scope vmid (combined m x)
takes_same scope vmid x m n = grind arith

blocks_sooner : (m n before count age old to : ℕ) (reached took taken : Bool) → m ≤ n → age ≤ old → took ≡ taken
    → ((nat_le n before && nat_lt before count) && ((reached && took) && nat_le old to)) ≡ true
    → ((nat_le m before && nat_lt before count) && ((reached && taken) && nat_le age to)) ≡ true
blocks_sooner m n before count age old to reached took taken le grows same k = grind (arith, nat_tests)

no_room : (n at count : ℕ) → count ≤ n → (nat_le n at && nat_lt at count) ≡ false
no_room n at count late = grind (arith, nat_tests)

later : (m n from at : ℕ) (b : Bool) → m ≤ n → ((nat_le from at && nat_lt at m) && b) ≡ true → ((nat_le from at && nat_lt at n) && b) ≡ true
later m n from at b le k = grind (arith, nat_tests)

-- what holds of the numbers from one on and below another, and of some more
one_range_more : (P : ℕ → Type 0) (from n : ℕ) → ((m : ℕ) → from ≤ m → m < n → P m) → P n → (m : ℕ) → from ≤ m → m < n + 1 → P m
one_range_more P from n before here m low high = grind arith

two_ranges : (P : ℕ → Type 0) (from m n : ℕ) → ((l : ℕ) → from ≤ l → l < m → P l) → ((l : ℕ) → m ≤ l → l < n → P l)
    → (l : ℕ) → from ≤ l → l < n → P l
two_ranges P from m n before here l low high = grind arith

any_wider : {X : Type 0} (f g : X → Bool) (xs : List X) → ((x : X) → f x ≡ true → g x ≡ true) → any f xs ≡ true → any g xs ≡ true
any_wider f g xs all e = let x = any_found f xs e in any_finds g xs x.0 x.1 (all x.0 x.2)

module _ (heading : Heading) (count : ℕ) (x : Entry) where
  -- what is forbidden late is forbidden early
  blocks_down : (a : Answer) (m n : ℕ) → m ≤ n → blocks heading count x n a ≡ true → blocks heading count x m a ≡ true
  blocks_down a m n le k =
      blocks_sooner m n a.before count (age_by a.tlbi.family Combined x.since m) (age_by a.tlbi.family Combined x.since n) a.tlbi.before
      (reaches heading a.tlbi.tlbi x.pe) (takes_by a.tlbi.scope a.tlbi.vmid (combined n x)) _ le
      (age_grows a.tlbi.family x.since m n le) (takes_same a.tlbi.scope a.tlbi.vmid x m n) k

  none_up : (answers : List Answer) (m n : ℕ) → m ≤ n → any (blocks heading count x m) answers ≡ false → any (blocks heading count x n) answers ≡ false
  none_up answers m n le k = false_from_ne_true _ (λ e. true≢false (sym (any_wider _ _ answers (λ a. blocks_down a m n le) e) ∙ k))

  -- at the end nothing is
  pub free_at_end : (a : Answer) (n : ℕ) → count ≤ n → blocks heading count x n a ≡ false
  free_at_end a n late = and_left _ _ (no_room n a.before count late)

  pub pass_more : (a : Answer) (from n : ℕ) → ((m : ℕ) → from ≤ m → m < n → blocks heading count x m a ≡ true)
      → blocks heading count x n a ≡ true → (m : ℕ) → from ≤ m → m < n + 1 → blocks heading count x m a ≡ true
  pass_more a from n before here = one_range_more (λ m. blocks heading count x m a ≡ true) from n before here

  module _ (answers : List Answer) (i : ℕ) (a : Answer) (within : i < length answers) (at : a ≡ get_or answers i a) where
    pub clear_free : (m n : ℕ) → m ≤ n → any (blocks heading count x m) (take i answers) ≡ false → blocks heading count x n a ≡ false
        → any (blocks heading count x n) (take (i + 1) answers) ≡ false
    clear_free m n le before here =
        list_any_more (blocks heading count x n) answers i a within
        ∙ or_from _ _ (none_up (take i answers) m n le before) (ap (blocks heading count x n) (sym at) ∙ here)

    pub clear_first : (from m n : ℕ) → ((l : ℕ) → from ≤ l → l < m → forbidden_by heading answers l count (combined l x) ≡ true)
        → ((l : ℕ) → m ≤ l → l < n → blocks heading count x l a ≡ true)
        → (l : ℕ) → from ≤ l → l < n → forbidden_by heading answers l count (combined l x) ≡ true
    clear_first from m n before here =
        two_ranges (λ l. forbidden_by heading answers l count (combined l x) ≡ true) from m n before (λ l low high.
        list_any_at (blocks heading count x l) answers i a within (ap (blocks heading count x l) (sym at) ∙ here l low high))

pub ruleset passing = (free_at_end)

pub ruleset clearing = (clear_free, clear_first)

-- ---- the first moment

module _ (heading : Heading) (answers : List Answer) (x : Entry) (from count : ℕ) (within : from ≤ count) where
  forbidden_up : (m n : ℕ) → m ≤ n → forbidden_by heading answers from m x ≡ true → forbidden_by heading answers from n x ≡ true
  forbidden_up m n le = any_wider _ _ answers (λ a. later m n from a.before (must_leave heading a.tlbi x) le)

  -- where nothing is forbidden from n on, n is no later than the end
  early : (n : ℕ) → ((m : ℕ) → from ≤ m → m < n → forbidden_by heading answers m count (combined m x) ≡ true) → n ≤ count
  early n first =
      let none : forbidden_by heading answers count count (combined count x) ≡ false
      = any_same _ _ answers (λ a. free_at_end heading count x a count (omega arith)) ∙ any_never answers in
      let not_late : count < n → ⊥ = λ late. true≢false (sym (first count within late) ∙ none) in
      omega arith

  module _ (n : ℕ) (free : forbidden_by heading answers n count (combined n x) ≡ false)
      (first : (m : ℕ) → from ≤ m → m < n → forbidden_by heading answers m count (combined m x) ≡ true) where
    blocked : (m : ℕ) → from ≤ m → m < n → joins heading answers x from count m ≡ false
    blocked m low high = and_right (not (forbidden_by heading answers from m x)) _ (not_from_true _ (first m low high))

    pub join_some : from ≤ n → forbidden_by heading answers from n x ≡ false
        → FirstIn (joins heading answers x from count) from count (Some n)
    join_some late free_before = (and_from _ _ (not_from_false _ free_before) (not_from_false _ free), late, early n first, blocked)

    pub join_none : forbidden_by heading answers from n x ≡ true → FirstIn (joins heading answers x from count) from count None
    join_none gone m low high =
        two_ranges (λ m. joins heading answers x from count m ≡ false) from n (count + 1) blocked
        (λ m late last. and_left _ _ (not_from_true _ (forbidden_up n m late gone))) m low (omega (arith, high))

pub ruleset joining = (join_some, join_none)
