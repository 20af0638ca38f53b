-- Where `slow` reaches no limit of events, `check` says the same of every input; and `check` reaches none.
use Rattle.bbm_rules.proofs.Common.{◌≡◌, ◌≢◌, ◌⊎◌, ℕ, suc, Bool, true, false, true≢false, not, ◌&&◌, ◌==◌, nat_le, List}
use Rattle.bbm_rules.proofs.Common.{[], ◌∷◌, length, Option, Some, None, if◌then◌else◌, Result, Ok, Err, refl, ap, sym}
use Rattle.bbm_rules.proofs.Common.{◌∙◌, inl, inr, Which, Pages, Roots, Item, WrongCount, Breach, Trust, limit_of}
use Rattle.bbm_rules.proofs.Common.{among, if_so, Progress, AtHeader, AtEvents, AtEnd, Ending, Halts, Judged, Passes}
use Rattle.bbm_rules.proofs.Common.{Turned, after_item, after_judged, after_kept, after_line, cut_at, ending_after}
use Rattle.bbm_rules.proofs.Common.{header_by, ending_from, events_in, is_too_long, limit_at, outcome_of, text_of}
use Rattle.bbm_rules.proofs.Common.{too_long_at, unrefused, verdict_of_bytes, initialised, Init, Msr, Root}
use Rattle.bbm_rules.proofs.Common.{register_values, roots_of}
use Rattle.bbm_regimes.specs.declared.regime.Which.TheVariants.{Events, Lines, Values}
use Rattle.bbm_events.specs.declared.event.Event.{Event}
use Rattle.bbm_events.specs.declared.event.Item.TheVariants as item
use Rattle.bbm_events.specs.declared.malformed.Malformed.{Malformed as Cause}
use Rattle.bbm_events.specs.Heading.{Heading}
use Rattle.bbm_events.specs.Lines.{header_of, item_of}
use Rattle.bbm_rules.specs.declared.verdict.Verdict.{Verdict}
use Rattle.bbm_rules.specs.declared.verdict.Verdict.TheVariants.{Limit, Malformed}
use Rattle.bbm_rules.specs.Broken.{broken}
use Rattle.bbm_rules.specs.Fold.{end_by, turned_by}
use Rattle.bbm_rules.specs.Outcome.{check_limits, judging, limit_after, slow_limits}
use Rattle.bbm_rules.proofs.Folds.{Turns, said_of}

-- one line says the same under both, or reaches the limit of events under the second
abbrev Same : ℕ → Turned Progress Judged → Turned Progress Judged → Type 0
Same n s t = (s ≡ t) ⊎ ((h : List Event) × (t ≡ Halts (unrefused h (Limit n Events))))

module _ (n : ℕ) (heading : Heading) (h : List Event) (event : Event) where
  abbrev after : Option Which → Turned Progress Judged
  after o = after_kept n heading h event o

  kept : (b : Bool) (o : Option Which) → Same n (after o) (after (if b then Some Events else o))
  kept true o = inr (h, refl)
  kept false o = inl refl

  limited : (o : Option Which) → Same n (after (limit_at check_limits n h o)) (after (limit_at slow_limits n h o))
  limited (Some which) = inl refl
  limited None = kept (nat_le 2000 (length h)) (limit_after check_limits n (length h))

  judged : (label : Option (List ℕ)) (o : Option Breach) → Same n (after_judged check_limits n heading h event label o)
      (after_judged slow_limits n heading h event label o)
  judged label (Some breach) = inl refl
  judged label None = limited (limit_of h event)

module _ (trust : Trust) (n : ℕ) where
  item_said : (heading : Heading) (h : List Event) (r : Result Item Cause)
      → Same n (after_item trust check_limits n heading h r) (after_item trust slow_limits n heading h r)
  item_said heading h (Ok (item.Event event label)) = judged n heading h event label (broken heading trust h event)
  item_said heading h (Ok (item.End count)) = inl refl
  item_said heading h (Err cause) = inl refl

  line_said : (p : Progress) (line : List ℕ)
      → Same n (after_line trust check_limits n p line) (after_line trust slow_limits n p line)
  line_said AtHeader line = inl refl
  line_said (AtEvents heading h) line = item_said heading h (item_of heading line)
  line_said (AtEnd h) line = inl refl

  cut : (b : Bool) (v : Judged) (s t : Turned Progress Judged) → Same n s t
      → Same n (if b then Halts v else s) (if b then Halts v else t)
  cut true v s t same = inl refl
  cut false v s t same = same

  turn_said : (p : Progress) (line : List ℕ)
      → Same n (turned_by (judging trust check_limits) n p line) (turned_by (judging trust slow_limits) n p line)
  unfolding turned_by judging
  turn_said p line = cut (is_too_long line) (unrefused (events_in p) (too_long_at n p))
      (after_line trust check_limits n p line) (after_line trust slow_limits n p line) (line_said p line)

  end_said : (p : Progress) (rest : List ℕ)
      → end_by (judging trust check_limits) n p rest ≡ end_by (judging trust slow_limits) n p rest
  unfolding end_by judging
  end_said p rest = refl

-- no limit of events is reached
abbrev Within : Ending Judged → Type 0
Within o = (line : ℕ) → o.says.verdict ≢ Limit line Events

module _ (line : List ℕ) (lines : List (List ℕ)) (rest : List ℕ) (f g : Progress → Ending Judged) where
  on_both : (s : Turned Progress Judged) → ((next : Progress) → Within (g next) → f next ≡ g next)
      → Within (ending_after line lines rest g s) → ending_after line lines rest f s ≡ ending_after line lines rest g s
  on_both (Halts v) ih within = refl
  on_both (Passes next) ih within = ih next within

  after_turn : (n : ℕ) (s t : Turned Progress Judged) → Same n s t
      → ((next : Progress) → Within (g next) → f next ≡ g next) → Within (ending_after line lines rest g t)
      → ending_after line lines rest f s ≡ ending_after line lines rest g t
  after_turn n s t (inl e) ih within = ap (ending_after line lines rest f) e ∙ on_both t ih within
  after_turn n s t (inr (h, e)) ih within =
      absurd (within n (ap (λ (u : Turned Progress Judged). (ending_after line lines rest g u).says.verdict) e))

same_from : (trust : Trust) (n : ℕ) (p : Progress) (lines : List (List ℕ)) (rest : List ℕ)
    → Within (ending_from (judging trust slow_limits) n p lines rest)
    → ending_from (judging trust check_limits) n p lines rest ≡ ending_from (judging trust slow_limits) n p lines rest
same_from trust n p [] rest within = rw (end_said trust n p rest) refl
same_from trust n p (line ∷ lines) rest within = after_turn line lines rest _ _ n _ _ (turn_said trust n p line)
    (λ next on. same_from trust (suc n) next lines rest on) within

pub same : (trust : Trust) (bytes : List ℕ)
    → ((line : ℕ) → verdict_of_bytes trust slow_limits bytes ≢ Limit line Events)
    → outcome_of trust check_limits bytes ≡ outcome_of trust slow_limits bytes
same trust bytes within = same_from trust 1 AtHeader (text_of bytes).lines (text_of bytes).rest within

-- Under the limits of `check` no line reaches the limit of events.

abbrev is_events : Option Which → Bool
is_events (Some Events) = true
is_events _ = false

abbrev limits_events : Verdict → Bool
limits_events (Limit line which) = is_events (Some which)
limits_events _ = false

abbrev Free : Judged → Type 0
Free v = limits_events v.verdict ≡ false

abbrev Goes : Turned Progress Judged → Type 0
Goes t = Turns (λ (p : Progress). Unit {0}) Free t

free_if : (b : Bool) (which : Which) → is_events (Some which) ≡ false → is_events (if_so b which) ≡ false
free_if true which free = free
free_if false which free = refl

of_history : (h : List Event) (event : Event) → is_events (limit_of h event) ≡ false
of_history h (Init pe page) =
    free_if (not (among page (initialised h)) && nat_le 16384 (length (initialised h))) Pages refl
of_history h (Root pe kind lock page) = free_if (nat_le 1024 (length (roots_of h))) Roots refl
of_history h (Msr pe reg value) = free_if (nat_le 9 (length (register_values h pe reg))) Values refl
of_history h _ = refl

of_number : (b : Bool) → is_events (if b then Some Lines else None) ≡ false
of_number true = refl
of_number false = refl

of_both : (n : ℕ) (h : List Event) (o : Option Which) → is_events o ≡ false
    → is_events (limit_at check_limits n h o) ≡ false
of_both n h (Some which) free = free
of_both n h None free = of_number (nat_le 4294967295 n)

goes_if : (b : Bool) (s t : Turned Progress Judged) → Goes s → Goes t → Goes (if b then s else t)
goes_if true s t first second = first
goes_if false s t first second = second

module _ (n : ℕ) (heading : Heading) (h : List Event) (event : Event) where
  kept_goes : (o : Option Which) → is_events o ≡ false → Goes (after_kept n heading h event o)
  kept_goes (Some which) free = free
  kept_goes None free = tt

  judged_goes : (label : Option (List ℕ)) (o : Option Breach)
      → Goes (after_judged check_limits n heading h event label o)
  judged_goes label (Some breach) = refl
  judged_goes label None = kept_goes (limit_at check_limits n h (limit_of h event))
      (of_both n h (limit_of h event) (of_history h event))

module _ (trust : Trust) (n : ℕ) where
  item_goes : (heading : Heading) (h : List Event) (r : Result Item Cause)
      → Goes (after_item trust check_limits n heading h r)
  item_goes heading h (Ok (item.Event event label)) =
      judged_goes n heading h event label (broken heading trust h event)
  item_goes heading h (Ok (item.End count)) =
      goes_if (count == length h) (Passes (AtEnd h)) (Halts (unrefused h (Malformed n WrongCount))) tt refl
  item_goes heading h (Err cause) = refl

  header_goes : (r : Result Heading Cause)
      → Goes (header_by (λ heading. AtEvents heading []) (unrefused []) n r)
  header_goes (Ok heading) = tt
  header_goes (Err cause) = refl

  line_goes : (p : Progress) (line : List ℕ) → Goes (after_line trust check_limits n p line)
  line_goes AtHeader line = header_goes (header_of line)
  line_goes (AtEvents heading h) line = item_goes heading h (item_of heading line)
  line_goes (AtEnd h) line = refl

  long_free : (p : Progress) → limits_events (too_long_at n p) ≡ false
  long_free AtHeader = refl
  long_free (AtEvents heading h) = refl
  long_free (AtEnd h) = refl

  cut_free : (p : Progress) (rest : List ℕ) → limits_events (cut_at n p rest) ≡ false
  cut_free (AtEnd h) [] = refl
  cut_free (AtEnd h) (byte ∷ rest) = refl
  cut_free AtHeader rest = refl
  cut_free (AtEvents heading h) rest = refl

  turn_goes : (p : Progress) (line : List ℕ) → Goes (turned_by (judging trust check_limits) n p line)
  unfolding turned_by judging
  turn_goes p line = goes_if (is_too_long line) (Halts (unrefused (events_in p) (too_long_at n p)))
      (after_line trust check_limits n p line) (long_free p) (line_goes p line)

  end_free : (p : Progress) (rest : List ℕ) → Free (end_by (judging trust check_limits) n p rest)
  unfolding end_by judging
  end_free p rest = by (is_too_long rest)
    where
      by : (b : Bool) → Free (if b then unrefused (events_in p) (too_long_at n p)
          else unrefused (events_in p) (cut_at n p rest))
      by true = long_free p
      by false = cut_free p rest

pub never : (trust : Trust) (bytes : List ℕ) (line : ℕ) → verdict_of_bytes trust check_limits bytes ≢ Limit line Events
never trust bytes line is =
    let free = said_of (judging trust check_limits) (λ (p : Progress). Unit {0}) Free
    (λ n p l reads. turn_goes trust n p l) (λ n p rest reads. end_free trust n p rest) 1 AtHeader (text_of bytes).lines
    (text_of bytes).rest tt in
    true≢false (sym (ap limits_events is) ∙ free)

pub ruleset laws = (same, never)
