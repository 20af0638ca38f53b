-- A plan's run is a plain conflict run exactly where the test of the plan says so.
use Rattle.bbm_counterrun.proofs.Common.{append-nil, append_assoc, length-append, Step, Entry, RunsAreFollowed, IsRun}
use Rattle.bbm_counterrun.proofs.Common.{State, conflicts_with, combined, is_stage2, IsPlain, Plan, behind, combine_of}
use Rattle.bbm_counterrun.proofs.Common.{made_by, run_of, walk_of, PlainIsTested, combine_within, combined_by}
use Rattle.bbm_counterrun.proofs.Common.{first_events, is_plain, is_within, may_walk, outlives, walked_by}
use Rattle.bbm_rules.proofs.Common.{◌≡◌, ℕ, suc, ◌-◌, ◌<◌, ◌≤◌, arith, true, ◌&&◌, not, List, [], ◌∷◌, ◌++◌, length}
use Rattle.bbm_rules.proofs.Common.{map, take, drop, reverse, Option, Some, None, refl, sym, ◌∙◌, ap, subst, and_from}
use Rattle.bbm_rules.proofs.Common.{and_parts, drop_at, length-drop, length-reverse, map-append, reverse-append}
use Rattle.bbm_rules.proofs.Common.{take-append-drop, take_at, if_so, Heading, Event}
use Rattle.std.proofs.lemmas.Bool.Decides.{nat_tests}
use Rattle.std.proofs.lemmas.List.{drop-append-le, take-append-le}
use Rattle.bbm_lemmas.proofs.Words.{if_so_some}
use Rattle.bbm_tlb_machine.specs.declared.step.Step.TheVariants.{Event as Taken}
use Rattle.bbm_tlb_machine.specs.MachineRun.{at_start}
use Rattle.bbm_counterrun.proofs.Following.{run_back, run_from, run_so, run_to}
use Rattle.bbm_counterrun.proofs.OneEntry.{forbidden_in, forbidden_is, none_kept, one_kept, one_meets, past_none}
use Rattle.bbm_counterrun.proofs.OneEntry.{past_one}
use Rattle.bbm_counterrun.proofs.WalkSteps.{past_combine, past_walk}

-- ---- the events of a run

-- the first so many events of a log, and the others
split : (P : List Event → Type 0) (n : ℕ) → ((newer older : List Event) → length older ≡ n → P (newer ++ older)) → (h : List Event)
    → n ≤ length h → P h
split P n f h le =
    subst P (take-append-drop (length h - n) h) (f (take (length h - n) h) _ (length-drop (length h - n) h ∙ omega (arith, le)))

pub older_is : (h newer older : List Event) (n : ℕ) → h ≡ newer ++ older → length older ≡ n → first_events n h ≡ older
older_is h newer older n e c =
    ap (first_events n) e ∙ drop_at newer older (length (newer ++ older) - n) (omega (arith, length-append newer older, c))

first_taken : (newer older : List Event) (n : ℕ) → length older ≡ n → take n (reverse (newer ++ older)) ≡ reverse older
first_taken newer older n c =
    ap (take n) (reverse-append newer older) ∙ take_at (reverse older) (reverse newer) n (length-reverse older ∙ c)

rest_taken : (newer older : List Event) (n : ℕ) → length older ≡ n → drop n (reverse (newer ++ older)) ≡ reverse newer
rest_taken newer older n c =
    ap (drop n) (reverse-append newer older) ∙ drop_at (reverse older) (reverse newer) n (length-reverse older ∙ c)

-- what the bounds of a plan say, and its test
pub combine_parts : (starts count n : ℕ) → combine_within starts count (Some n) ≡ true → (starts ≤ n) × (n ≤ count)
combine_parts starts count n k = grind (arith, nat_tests)

pub within_parts : (plan : Plan) (count : ℕ) → is_within plan count ≡ true
    → (0 < plan.starts) × (plan.starts ≤ count) × (combine_within plan.starts count plan.combines ≡ true)
within_parts plan count k = grind (arith, nat_tests)

pub plain_parts : (heading : Heading) (h : List Event) (e : Event) (plan : Plan) → is_plain heading h e plan ≡ true
    → (is_within plan (length h) ≡ true) × (may_walk heading (first_events plan.starts h) plan ≡ true)
    × (outlives heading (walked_by heading plan) plan.starts plan.combines h ≡ true)
    × (conflicts_with heading h e (combined_by plan.combines (walked_by heading plan)) ≡ true)
plain_parts heading h e plan k =
    let a = and_parts _ _ k in
    let b = and_parts _ _ a.0 in
    let c = and_parts _ _ b.0 in
    (c.0, c.1, b.1, a.1)

-- the steps behind the walk, and the run, over a log with one event more
behind_more : (plan : Plan) (o : Option ℕ) (events : List Event) (e : Event) (count : ℕ) → length events ≡ count
    → plan.starts ≤ count → combine_within plan.starts count o ≡ true
    → behind plan o (events ++ e ∷ []) ≡ behind plan o events ++ Taken e ∷ []
behind_more plan None events e count long le fits =
    rw (drop-append-le plan.starts events (e ∷ []) (omega (arith, long, le))) (map-append Taken (drop plan.starts events) (e ∷ []))
behind_more plan (Some n) events e count long le fits =
    let less : n ≤ length events = omega (arith, long, (combine_parts plan.starts count n fits).1) in
    rw (take-append-le n events (e ∷ []) less, drop-append-le n events (e ∷ []) less, map-append Taken (drop n events) (e ∷ []))
    (sym (append_assoc _ (map Taken (drop n events)) (Taken e ∷ [])))

run_more : (plan : Plan) (events : List Event) (e : Event) (count : ℕ) → length events ≡ count → is_within plan count ≡ true
    → run_of plan (events ++ e ∷ []) ≡ run_of plan events ++ Taken e ∷ []
run_more plan events e count long within =
    let p = within_parts plan count within in
    rw (take-append-le plan.starts events (e ∷ []) (omega (arith, long, p.1)), behind_more plan plan.combines events e count long p.1 p.2)
    (sym (append_assoc _ (behind plan plan.combines events) (Taken e ∷ [])))

run_to_event : (plan : Plan) (h : List Event) (e : Event) → is_within plan (length h) ≡ true
    → reverse (run_of plan (reverse (e ∷ h))) ≡ Taken e ∷ reverse (run_of plan (reverse h))
run_to_event plan h e within =
    rw (reverse-append (e ∷ []) h, run_more plan (reverse h) e (length h) (length-reverse h) within)
    (reverse-append (run_of plan (reverse h)) (Taken e ∷ []))

-- ---- where the run over the events before leads

-- how many entries were made
abbrev pub number_by : Option ℕ → ℕ → ℕ
number_by None n = n
number_by (Some k) n = suc n

module _ (heading : Heading) where
  -- the state that a plan leaves
  abbrev pub left_by : Plan → Option ℕ → List Event → State
  left_by plan o h = one_kept h (number_by o (made_by plan)) (combined_by o (walked_by heading plan))

  -- the events behind the walk, and all steps of a plan, lead to it where the entry outlives them
  abbrev IsPassed : Plan → Option ℕ → List Event → List Event → Type 0
  IsPassed plan o older h =
      run_to heading (one_kept older (made_by plan) (walked_by heading plan)) (behind plan o (reverse h))
      ≡ if_so (outlives heading (walked_by heading plan) plan.starts o h) (left_by plan o h)

  abbrev IsLed : Plan → Option ℕ → List Event → Type 0
  IsLed plan o h =
      run_to heading at_start (map Taken (take plan.starts (reverse h)) ++ walk_of plan ++ behind plan o (reverse h))
      ≡ if_so (may_walk heading (first_events plan.starts h) plan && outlives heading (walked_by heading plan) plan.starts o h) (left_by plan o h)

  all_parts : (h newer older : List Event) (plan : Plan) (o : Option ℕ) → h ≡ newer ++ older → length older ≡ plan.starts
      → IsPassed plan o older h → IsLed plan o h
  all_parts h newer older plan o e c rest =
      let first : List Step = map Taken (take plan.starts (reverse h)) in
      let before : run_to heading at_start first ≡ Some (none_kept older)
      = rw (e, first_taken newer older plan.starts c) (past_none heading older [] ∙ ap (λ es. Some (none_kept es)) (append-nil older)) in
      rw (older_is h newer older plan.starts e c) (run_so heading at_start (one_kept older (made_by plan) (walked_by heading plan)) _
      (first ++ walk_of plan) (behind plan o (reverse h)) (may_walk heading older plan) _
      (run_so heading at_start (none_kept older) _ first (walk_of plan) true _ before (past_walk heading older plan c)) rest)

  uncombined : (newer older : List Event) (plan : Plan) → length older ≡ plan.starts → IsPassed plan None older (newer ++ older)
  uncombined newer older plan c =
      rw (rest_taken newer older plan.starts c, forbidden_is heading [] newer older plan.starts (length (newer ++ older)) (walked_by heading plan) c refl)
      (past_one heading newer older (made_by plan) (walked_by heading plan))

  -- the events between the start and the combine, the combine, and the events from there on
  combined_behind : (last mid older : List Event) (plan : Plan) (n : ℕ) → length older ≡ plan.starts → length (mid ++ older) ≡ n
      → behind plan (Some n) (reverse (last ++ (mid ++ older)))
      ≡ map Taken (reverse mid) ++ combine_of (made_by plan) ++ map Taken (reverse last)
  combined_behind last mid older plan n c d =
      rw (first_taken last (mid ++ older) n d, rest_taken mid older plan.starts c, rest_taken last (mid ++ older) n d)

  combined_past : (last mid older : List Event) (plan : Plan) (n : ℕ) → length older ≡ plan.starts → length (mid ++ older) ≡ n
      → IsPassed plan (Some n) older (last ++ (mid ++ older))
  combined_past last mid older plan n c d =
      let m : ℕ = made_by plan in
      let x : Entry = walked_by heading plan in
      let h : List Event = last ++ (mid ++ older) in
      let early = forbidden_is heading last mid older plan.starts n x c d in
      let late = forbidden_is heading [] last (mid ++ older) n (length h) (combined n x) d refl in
      ap (run_to heading (one_kept older m x)) (combined_behind last mid older plan n c d)
      ∙ run_so heading (one_kept older m x) (one_kept (mid ++ older) (suc m) (combined n x)) (one_kept h (suc m) (combined n x))
      (map Taken (reverse mid) ++ combine_of m) (map Taken (reverse last)) (not (forbidden_in heading x mid older) && is_stage2 x.kind) _
      (run_so heading (one_kept older m x) (one_kept (mid ++ older) m x) _ (map Taken (reverse mid)) (combine_of m) _ _
      (past_one heading mid older m x) (past_combine heading (mid ++ older) m n x d))
      (past_one heading last (mid ++ older) (suc m) (combined n x))
      ∙ (λ i. if_so (not (sym early i) && is_stage2 x.kind && not (sym late i)) (one_kept h (suc m) (combined n x)))

  leads : (h : List Event) (plan : Plan) (o : Option ℕ) → plan.starts ≤ length h → combine_within plan.starts (length h) o ≡ true
      → IsLed plan o h
  leads h plan None le fits =
      split (IsLed plan None) plan.starts (λ newer older c. all_parts (newer ++ older) newer older plan None refl c (uncombined newer older plan c)) h le
  leads h plan (Some n) le fits =
      let p = combine_parts plan.starts (length h) n fits in
      split (IsLed plan (Some n)) n (λ last rest d. split (λ rest. length rest ≡ n → IsLed plan (Some n) (last ++ rest)) plan.starts
      (λ mid older c d. all_parts (last ++ (mid ++ older)) (last ++ mid) older plan (Some n) (sym (append_assoc last mid older)) c
      (combined_past last mid older plan n c d)) rest (omega (arith, p.0, d)) d) h p.1

  -- ---- the test

  leads_to : (h : List Event) (plan : Plan) → is_within plan (length h) ≡ true → IsLed plan plan.combines h
  leads_to h plan within = let p = within_parts plan (length h) within in leads h plan plan.combines p.1 p.2

  test_from : RunsAreFollowed → (h : List Event) (e : Event) (plan : Plan) → IsPlain heading h e plan → is_plain heading h e plan ≡ true
  test_from law h e plan p =
      let c = p.conflicts in
      let split : Taken e ∷ reverse (run_of plan (reverse h)) ≡ Taken e ∷ c.older = sym (run_to_event plan h e p.within) ∙ c.last in
      let same : c.older ≡ reverse (run_of plan (reverse h)) = cc in
      let r = run_back heading law [] (run_of plan (reverse h)) c.before (rw same at c.run) in
      let q = if_so_some _ _ c.before (sym (leads_to h plan p.within) ∙ rw (← r.1) r.2) in
      let b = and_parts _ _ q.0 in
      and_from _ _ (and_from _ _ (and_from _ _ p.within b.0) b.1)
      (sym (one_meets heading h (number_by plan.combines (made_by plan)) (combined_by plan.combines (walked_by heading plan)) e)
      ∙ rw q.1 at c.conflict)

  -- the run over the events before, where the test passes
  pub plain_run : RunsAreFollowed → (h : List Event) (e : Event) (plan : Plan) → is_plain heading h e plan ≡ true
      → IsRun heading (reverse (run_of plan (reverse h))) (left_by plan plan.combines h)
  plain_run law h e plan k =
      let a = plain_parts heading h e plan k in
      run_from heading law [] (run_of plan (reverse h)) at_start _ refl
      (leads_to h plan a.0 ∙ ap (λ b. if_so b (left_by plan plan.combines h)) (and_from _ _ a.1 a.2))

  test_to : RunsAreFollowed → (h : List Event) (e : Event) (plan : Plan) → is_plain heading h e plan ≡ true → IsPlain heading h e plan
  test_to law h e plan k =
      let a = plain_parts heading h e plan k in record {
        within = a.0;
        conflicts = record {
          older = reverse (run_of plan (reverse h));
          before = left_by plan plan.combines h;
          last = run_to_event plan h e a.0;
          run = plain_run law h e plan k;
          over = refl;
          conflict = one_meets heading h (number_by plan.combines (made_by plan)) (combined_by plan.combines (walked_by heading plan)) e ∙ a.3;
        };
      }

pub plain_is_tested : RunsAreFollowed → (heading : Heading) → PlainIsTested heading
plain_is_tested law heading h e plan = (test_from heading law h e plan, test_to heading law h e plan)
