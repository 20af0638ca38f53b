-- What the search of one number finds is what the test of the plans says.
use Rattle.bbm_counterrun.proofs.Common.{Kind, Entry, parts_of, conflicts_with, is_stale, combined, is_stage2}
use Rattle.bbm_counterrun.proofs.Common.{may_start, started, Answer, IsAnswers, Plan, Read, FirstCombine, outlives_by}
use Rattle.bbm_counterrun.proofs.Common.{plain_by, plan_of, combine_within, combined_by, extended_by, first_events}
use Rattle.bbm_counterrun.proofs.Common.{is_plain, is_within, may_extend_by, may_walk, outlives, walked_by}
use Rattle.bbm_rules.proofs.Common.{◌≡◌, ℕ, ◌-◌, ◌<◌, ◌≤◌, arith, Bool, true, false, ◌&&◌, not, nat_le, nat_lt, List}
use Rattle.bbm_rules.proofs.Common.{[], ◌∷◌, ◌++◌, length, take, drop, reverse, Option, Some, None, refl, sym, ◌∙◌, ap}
use Rattle.bbm_rules.proofs.Common.{subst, and_left, and_right, drop_at, length-drop, length-reverse, reverse-append}
use Rattle.bbm_rules.proofs.Common.{take-append-drop, ◌>>=◌, any, if_so, Heading, Event, Write}
use Rattle.std.proofs.lemmas.Bool.Decides.{nat_tests}
use Rattle.bbm_tlb_machine.specs.Entry.{is_given_up}
use Rattle.bbm_counterrun.specs.Tested.{walk_by}

-- the events that were taken at a moment
pub first_is : (es : List Event) (k : ℕ) → k ≤ length es → reverse (take k es) ≡ first_events k (reverse es)
first_is es k le =
    let parts : reverse es ≡ reverse (drop k es) ++ reverse (take k es)
    = ap (reverse {A = Event}) (sym (take-append-drop k es)) ∙ reverse-append (take k es) (drop k es) in
    let count : length (reverse (drop k es)) ≡ length (reverse es) - k
    = length-reverse (drop k es) ∙ length-drop k es ∙ ap (λ n. n - k) (sym (length-reverse es)) in
    sym (ap (drop (length (reverse es) - k)) parts ∙ drop_at (reverse (drop k es)) (reverse (take k es)) (length (reverse es) - k) count)

first_count : (es : List Event) (k : ℕ) → k ≤ length es → length (first_events k (reverse es)) ≡ k
first_count es k le = length-drop (length (reverse es) - k) (reverse es) ∙ omega (arith, length-reverse es)

-- an entry that is made where one test passes, and another of it where a second one does
made_none : {A B : Type 0} (b : Bool) (x : A) (c : A → Bool) (f : A → B) → (if_so b x >>= (λ y. if_so (c y) (f y))) ≡ None
    → (b && c x) ≡ false
made_none b x c f k = grind arith

made_some : {A B : Type 0} (b : Bool) (x : A) (c : A → Bool) (f : A → B) (z : B) → (if_so b x >>= (λ y. if_so (c y) (f y))) ≡ Some z
    → ((b && c x) ≡ true) × (f x ≡ z)
made_some b x c f z k = grind arith

bounds_pass : (k n : ℕ) (fits out : Bool) → 0 < k → k ≤ n → ((((nat_lt 0 k && nat_le k n) && fits) && true && out) && true) ≡ (fits && out)
bounds_pass k n fits out some le = grind (arith, nat_tests)

module _ (heading : Heading) (es : List Event) (place value k p : ℕ) (kind : Kind) (number : ℕ) (some : 0 < k) (le : k ≤ length es) where
  abbrev test : List Read → Option ℕ → Bool
  test reads = plain_by heading (reverse es) (Write 0 place value) kind k p reads number

  abbrev walk : List Read → Option Entry
  walk reads = walk_by heading (reverse (take k es)) p kind number reads

  abbrev first : Read → Entry
  first r = started heading k p kind number r.place r.value

  abbrev starts : Read → Bool
  starts r = may_start heading (first_events k (reverse es)) (first r) number

  -- the walk of a plan, by the moment of its start
  walk_is : (r : Read) (rs : List Read) → walk (r ∷ rs)
      ≡ (if_so (starts r) (first r) >>= (λ x. if_so (may_extend_by heading (first_events k (reverse es)) x rs) (extended_by x rs)))
  walk_is r rs = rw (first_is es k le, first_count es k le)

  unwalked : (plan : Plan) → may_walk heading (first_events plan.starts (reverse es)) plan ≡ false
      → is_plain heading (reverse es) (Write 0 place value) plan ≡ false
  unwalked plan none = and_left _ _ (and_left _ _ (and_right _ _ none))

  pub try_none : (reads : List Read) (made : Option Entry) → made ≡ walk reads → made ≡ None → FirstCombine (test reads) None
  try_none [] made is none o = unwalked (plan_of k p kind number [] o) (and_left _ _ (and_right _ _ refl))
  try_none (r ∷ rs) made is none o =
      unwalked (plan_of k p kind number (r ∷ rs) o) (made_none (starts r) (first r) _ (λ x. extended_by x rs) (sym (walk_is r rs) ∙ sym is ∙ none))

  -- the entry of the walk
  entry_is : (r : Read) (rs : List Read) (x : Entry) (o : Option ℕ) → walk (r ∷ rs) ≡ Some x
      → (may_walk heading (first_events k (reverse es)) (plan_of k p kind number (r ∷ rs) o) ≡ true)
      × (walked_by heading (plan_of k p kind number (r ∷ rs) o) ≡ x)
  entry_is r rs x o e = made_some (starts r) (first r) (λ x. may_extend_by heading (first_events k (reverse es)) x rs) (λ x. extended_by x rs) x (sym (walk_is r rs) ∙ e)

  -- whether the entry conflicts with the write
  abbrev conflicts : Entry → Bool
  conflicts x = not (is_given_up heading (reverse es) x) && any (is_stale place value) (parts_of x)

  -- the combine changes no part, and not where the entry is from
  stale_is : (x : Entry) (o : Option ℕ)
      → conflicts_with heading (reverse es) (Write 0 place value) (combined_by o x) ≡ conflicts x
  stale_is x None = refl
  stale_is x (Some n) = refl

  pub try_fresh : (reads : List Read) (made : Option Entry) (x : Entry) → made ≡ walk reads → made ≡ Some x
      → (not (is_given_up heading (reverse es) x) && any (is_stale place value) (parts_of x)) ≡ false → FirstCombine (test reads) None
  try_fresh [] made x is some none o = cc
  try_fresh (r ∷ rs) made x is some none o =
      and_right _ _ (ap (λ y. conflicts_with heading (reverse es) (Write 0 place value) (combined_by o y))
      (entry_is r rs x o (sym is ∙ some)).1 ∙ stale_is x o ∙ none)

  module _ (answers : List Answer) (are : IsAnswers heading (reverse es) answers) where
    outlives_is : (x : Entry) (o : Option ℕ) → outlives heading x k o (reverse es) ≡ outlives_by heading answers x k (length (reverse es)) o
    outlives_is x None = λ i. not (sym (are k (length (reverse es)) x) i)
    outlives_is x (Some n) = λ i.
        not (sym (are k n x) i) && is_stage2 x.kind && not (sym (are n (length (reverse es)) (combined n x)) i)

    test_is : (r : Read) (rs : List Read) (x : Entry) (o : Option ℕ) → walk (r ∷ rs) ≡ Some x → conflicts x ≡ true
        → test (r ∷ rs) o ≡ (combine_within k (length (reverse es)) o && outlives_by heading answers x k (length (reverse es)) o)
    test_is r rs x o e stale =
        let w = entry_is r rs x o e in
        let meets = stale_is x o ∙ stale in
        let plan : Plan = plan_of k p kind number (r ∷ rs) o in
        let h : List Event = reverse es in
        (λ i. is_within plan (length h) && w.0 i && outlives heading (w.1 i) k o h
        && conflicts_with heading h (Write 0 place value) (combined_by o (w.1 i)))
        ∙ (λ i. is_within plan (length h) && true && outlives_is x o i && meets i)
        ∙ bounds_pass k (length h) (combine_within k (length h) o) _ some (omega (arith, le, length-reverse es))

    pub try_chosen : (reads : List Read) (made : Option Entry) (x : Entry) → made ≡ walk reads → made ≡ Some x
        → (not (is_given_up heading (reverse es) x) && any (is_stale place value) (parts_of x)) ≡ true → (found : Option (Option ℕ))
        → FirstCombine (λ o. combine_within k (length es) o && outlives_by heading answers x k (length es) o) found
        → FirstCombine (test reads) found
    try_chosen [] made x is some stale found f = cc
    try_chosen (r ∷ rs) made x is some stale found f =
        subst (λ (test : Option ℕ → Bool). FirstCombine test found) (λ i o. sym (test_is r rs x o (sym is ∙ some) stale) i)
        (subst (λ n. FirstCombine (λ o. combine_within k n o && outlives_by heading answers x k n o) found) (sym (length-reverse es)) f)

pub ruleset tries = (try_none, try_fresh, try_chosen)
