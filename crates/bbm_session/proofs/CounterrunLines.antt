-- The text of a run: each line is read as the step that was written, and the text is read whole.
use Rattle.bbm_rules.proofs.Common.{◌≡◌, ℕ, suc, ◌+◌, ◌^◌, ◌<◌, ◌≤◌, ◌==◌, nat_le, true, false, List, [], ◌∷◌, ◌++◌}
use Rattle.bbm_rules.proofs.Common.{length, reverse, Option, None, Some, Result, Ok, refl, ap, sym, ◌∙◌, subst, arith}
use Rattle.bbm_rules.proofs.Common.{append_assoc, length-reverse, and_from, and_parts, lt-ltb, nat_tests, every, keeps}
use Rattle.bbm_rules.proofs.Common.{fits_heading, heading_ok, Trust}
use Rattle.bbm_lemmas.proofs.Reversed.{every_reverse}
use Rattle.bbm_rules.proofs.Common.{Heading, Event, Init, Null, Root, Unroot, Write, Dsb, Dmb, Isb, Tlbi, Msr, Lock}
use Rattle.bbm_rules.proofs.Common.{Unlock, Start, Extend, Combine, Share, Drop}
use mathlib.Core.List.{reverse_aux}
use Rattle.bbm_io.specs.Flow.{plain}
use Rattle.bbm_events.specs.Fits.{item_fits}
use Rattle.bbm_events.specs.LineLaws.{WrittenIsALine, WrittenIsRead}
use Rattle.bbm_events.specs.Lines.{header_line, item_line}
use Rattle.bbm_events.specs.Machine.{machine_fits, machine_line, machine_of}
use Rattle.bbm_events.specs.Spelling.{is_plain}
use Rattle.bbm_events.specs.declared.event.Item.TheVariants as item
use Rattle.bbm_events.specs.declared.machine.MachineLine.{MachineLine}
use Rattle.bbm_rules.specs.Claims.{Patterns}
use Rattle.bbm_rules.specs.Fold.{Ending, Passes, end_by, ending_at}
use Rattle.bbm_follow.specs.Following.{AtEnd, AtHeader, AtSteps, RunSays, Whole, event_count, followed, followed_by}
use Rattle.bbm_follow.specs.Following.{following, is_machine, line_of, run_of, step_limit}
use Rattle.bbm_follow.specs.declared.followed.Followed.TheVariants.{Run}
use Rattle.bbm_counterrun.specs.Plans.{EndsInConflict, IsConflictRun, IsPlain, Plan, run_of as steps_of}
use Rattle.bbm_counterrun.specs.RunSteps.{step_fits}
use Rattle.bbm_texts.specs.Counterruns.{step_line, step_lines, steps_text}
use Rattle.bbm_texts.specs.Generating.{ended}
use Rattle.bbm_tlb_machine.specs.declared.step.Step.{Step}
use Rattle.bbm_tlb_machine.specs.declared.step.Step.TheVariants.{Event as Taken, Machine}
use Rattle.bbm_tlb_machine.specs.MachineRun.{IsRun, State}
use Rattle.bbm_tlb_machine.specs.Safe.{IsLog, first_conflict}
use Rattle.bbm_session.specs.FollowedRuns.{EndsAtWrite}
use Rattle.bbm_session.proofs.GeneratedLogs.{plain_is}
use Rattle.bbm_session.proofs.TextLines.{ending-passes}

-- the laws of written lines
pub record WrittenLines : Type 0 where
  pub lines : WrittenIsALine
  pub read : WrittenIsRead
  pub machine_plain : (step : MachineLine) → is_plain (machine_line step) ≡ true
  pub machine_short : (heading : Heading) (step : MachineLine) → heading_ok heading ≡ true
      → machine_fits heading step ≡ true → length (machine_line step) ≤ 200
  pub machine_read : (heading : Heading) (step : MachineLine) → heading_ok heading ≡ true
      → machine_fits heading step ≡ true → machine_of heading (machine_line step) ≡ Ok step

-- ---- which lines are machine lines

machine_marked : (line : MachineLine) → is_machine (machine_line line) ≡ true
unfolding machine_line
machine_marked (Start pe kind tag place value) = refl
machine_marked (Extend entry place value) = refl
machine_marked (Combine entry) = refl
machine_marked (Share entry pe) = refl
machine_marked (Drop entry) = refl

event_unmarked : (e : Event) → is_machine (item_line (item.Event e None)) ≡ false
unfolding item_line
event_unmarked (Init pe page) = refl
event_unmarked (Null pe page) = refl
event_unmarked (Root pe kind lock page) = refl
event_unmarked (Unroot pe page) = refl
event_unmarked (Write pe place value) = refl
event_unmarked (Dsb pe dsb) = refl
event_unmarked (Dmb pe dsb) = refl
event_unmarked (Isb pe) = refl
event_unmarked (Tlbi pe op xt) = refl
event_unmarked (Msr pe reg value) = refl
event_unmarked (Lock pe lock) = refl
event_unmarked (Unlock pe lock) = refl

end_unmarked : (count : ℕ) → is_machine (item_line (item.End count)) ≡ false
unfolding item_line
end_unmarked count = refl

-- ---- the lines of a run

-- what is said of a run that was read whole
abbrev whole : Heading → List Step → Ending RunSays
whole heading steps = record { says = Whole heading steps; unread = [] }

module _ (laws : WrittenLines) (heading : Heading) (ok : heading_ok heading ≡ true) where
  item_ok : (e : Event) → fits_heading heading e ≡ true → item_fits heading (item.Event e None) ≡ true
  item_ok e fits = rw fits refl

  end_ok : (count : ℕ) → count < 2 ^ 32 → item_fits heading (item.End count) ≡ true
  end_ok count few = lt-ltb count (2 ^ 32) few

  step_plain : (s : Step) → step_fits heading s ≡ true → plain (step_line s) ≡ true
  step_plain (Taken e) fits =
      plain_is (item_line (item.Event e None)) ∙ laws.lines.item_plain heading (item.Event e None) (item_ok e fits)
  step_plain (Machine line) fits = plain_is (machine_line line) ∙ laws.machine_plain line

  step_short : (s : Step) → step_fits heading s ≡ true → length (step_line s) ≤ 200
  step_short (Taken e) fits = laws.lines.item_short heading (item.Event e None) ok (item_ok e fits)
  step_short (Machine line) fits = laws.machine_short heading line ok fits

  step_passes : (n : ℕ) (before : List Step) (s : Step) → step_fits heading s ≡ true → length before < 2000
      → following.line n (AtSteps heading before) (step_line s) ≡ Passes (AtSteps heading (s ∷ before))
  unfolding following
  step_passes n before (Taken e) fits few =
      let low : nat_le step_limit (length before) ≡ false = grind (arith, nat_tests, few) in
      rw (event_unmarked e, laws.read.item heading (item.Event e None) ok (item_ok e fits), low) refl
  step_passes n before (Machine line) fits few =
      let low : nat_le step_limit (length before) ≡ false = grind (arith, nat_tests, few) in
      rw (machine_marked line, laws.machine_read heading line ok fits, low) refl

  end_passes : (n : ℕ) (before : List Step) (count : ℕ) → count ≡ event_count before → count < 2 ^ 32
      → following.line n (AtSteps heading before) (item_line (item.End count)) ≡ Passes (AtEnd heading before)
  unfolding following
  end_passes n before count is few =
      let same : (count == event_count before) ≡ true = grind (arith, nat_tests, is) in
      rw (end_unmarked count, laws.read.item heading (item.End count) ok (end_ok count few), same) refl

  at_end : (n : ℕ) (steps : List Step) → ending_at following n (AtEnd heading steps) [] ≡ whole heading steps
  unfolding following end_by
  at_end n steps = refl

  -- the text of the steps from one on, and of the end
  abbrev rest : List Step → ℕ → List ℕ
  rest [] count = ended (item_line (item.End count))
  rest (s ∷ steps) count = step_line s ++ 10 ∷ rest steps count

  rest_is : (steps : List Step) (count : ℕ) → step_lines steps ++ ended (item_line (item.End count)) ≡ rest steps count
  rest_is [] count = refl
  rest_is (s ∷ steps) count =
      append_assoc (ended (step_line s)) (step_lines steps) (ended (item_line (item.End count)))
      ∙ append_assoc (step_line s) (10 ∷ []) (step_lines steps ++ ended (item_line (item.End count)))
      ∙ ap (λ (text : List ℕ). step_line s ++ 10 ∷ text) (rest_is steps count)

  read_rest : (steps before : List Step) (n count : ℕ) → every (step_fits heading) steps ≡ true
      → length before + length steps ≤ 2000 → count ≡ event_count (reverse_aux steps before) → count < 2 ^ 32
      → ending_at following n (AtSteps heading before) (rest steps count) ≡ whole heading (reverse_aux steps before)
  read_rest [] before n count fit few is small =
      ending-passes following n (AtSteps heading before) (AtEnd heading before) (item_line (item.End count)) []
      (plain_is (item_line (item.End count)) ∙ laws.lines.item_plain heading (item.End count) (end_ok count small))
      (laws.lines.item_short heading (item.End count) ok (end_ok count small)) (end_passes n before count is small)
      ∙ at_end (suc n) before
  read_rest (s ∷ steps) before n count fit few is small =
      let parts = and_parts (step_fits heading s) (every (step_fits heading) steps) fit in
      ending-passes following n (AtSteps heading before) (AtSteps heading (s ∷ before)) (step_line s) (rest steps count)
      (step_plain s parts.0) (step_short s parts.0) (step_passes n before s parts.0 (omega (arith, few)))
      ∙ read_rest steps (s ∷ before) (suc n) count parts.1 (omega (arith, few)) is small

  header_passes : following.line 1 AtHeader (header_line heading) ≡ Passes (AtSteps heading [])
  unfolding following
  header_passes = rw (laws.read.header heading ok) refl

  -- the text of the steps, the oldest first
  pub run_read : (steps : List Step) (count : ℕ) → every (step_fits heading) steps ≡ true → length steps ≤ 2000
      → count ≡ event_count (reverse steps) → count < 2 ^ 32
      → run_of (steps_text heading count steps) ≡ whole heading (reverse steps)
  run_read steps count fit few is small =
      ap (ending_at following 1 AtHeader)
      (append_assoc (ended (header_line heading)) (step_lines steps) (ended (item_line (item.End count)))
      ∙ append_assoc (header_line heading) (10 ∷ []) (step_lines steps ++ ended (item_line (item.End count)))
      ∙ ap (λ (text : List ℕ). header_line heading ++ 10 ∷ text) (rest_is steps count))
      ∙ ending-passes following 1 AtHeader (AtSteps heading []) (header_line heading) (rest steps count)
      (plain_is (header_line heading) ∙ laws.lines.header_plain heading) (laws.lines.header_short heading ok)
      header_passes
      ∙ read_rest steps [] 2 count fit (omega (arith, few)) is small

-- ---- the events of a run

-- a run has the events of its log
run_counts : (heading : Heading) (steps : List Step) (s : State) → IsRun heading steps s
    → event_count steps ≡ length s.log
run_counts heading [] s run = sym (ap (λ (t : State). length t.log) run)
run_counts heading (Taken e ∷ steps) s run =
    ap suc (run_counts heading steps run.0 run.1) ∙ sym (ap (λ (t : State). length t.log) run.2.1)
run_counts heading (Machine (Start p kind number place value) ∷ steps) s run =
    run_counts heading steps run.0 run.1 ∙ sym (ap (λ (t : State). length t.log) run.2.1)
run_counts heading (Machine (Extend number place value) ∷ steps) s run =
    run_counts heading steps run.0 run.1 ∙ sym (ap (λ (t : State). length t.log) run.2.3)
run_counts heading (Machine (Combine number) ∷ steps) s run =
    run_counts heading steps run.0 run.1 ∙ sym (ap (λ (t : State). length t.log) run.2.3)
run_counts heading (Machine (Share number p) ∷ steps) s run =
    run_counts heading steps run.0 run.1 ∙ sym (ap (λ (t : State). length t.log) run.2.3)
run_counts heading (Machine (Drop number) ∷ steps) s run =
    run_counts heading steps run.0 run.1 ∙ sym (ap (λ (t : State). length t.log) run.2.2)

-- ---- the run that is found

-- the laws of runs
pub record RunLaws : Type 0 where
  pub fit : (heading : Heading) (steps : List Step) (s : State) → IsLog heading s.log → length steps < 2 ^ 32
      → IsRun heading steps s → every (step_fits heading) steps ≡ true
  pub short : (heading : Heading) (h : List Event) (e : Event) (plan : Plan) → heading_ok heading ≡ true
      → IsPlain heading h e plan → length (steps_of plan (reverse (e ∷ h))) ≤ length (e ∷ h) + 9
  pub ends : (heading : Heading) (trust : Trust) (h : List Event) (pe place value : ℕ) (steps : List Step)
      → IsLog heading h → keeps heading trust h ≡ true → IsConflictRun heading h (Write pe place value) steps
      → EndsInConflict heading steps

module _ (lines : WrittenLines) (laws : RunLaws) (heading : Heading) (h : List Event) (pe place value : ℕ)
    (log : IsLog heading h) (fits : fits_heading heading (Write pe place value) ≡ true)
    (kept : keeps heading Patterns h ≡ true) (few : length h < 1991)
    (plan : Plan) (is_plain : IsPlain heading h (Write pe place value) plan) where
  abbrev steps : List Step
  steps = steps_of plan (reverse (Write pe place value ∷ h))

  abbrev conflicts : IsConflictRun heading h (Write pe place value) (reverse steps)
  conflicts = is_plain.conflicts

  most : length steps ≤ 2000
  most = let short = laws.short heading h (Write pe place value) plan log.header is_plain in omega (arith, short, few)

  long : length steps ≡ suc (length conflicts.older)
  long = sym (length-reverse steps) ∙ ap length conflicts.last

  all_fit : every (step_fits heading) steps ≡ true
  all_fit =
      let older = laws.fit heading conflicts.older conflicts.before
      (subst (λ (es : List Event). IsLog heading es) (sym conflicts.over) log) (omega (arith, most, long))
      conflicts.run in
      sym (every_reverse (step_fits heading) steps) ∙ ap (every (step_fits heading)) conflicts.last
      ∙ and_from (fits_heading heading (Write pe place value)) (every (step_fits heading) conflicts.older) fits older

  events : suc (length h) ≡ event_count (reverse steps)
  events =
      sym (ap event_count conflicts.last
      ∙ ap suc (run_counts heading conflicts.older conflicts.before conflicts.run ∙ ap length conflicts.over))

  abbrev ends : EndsInConflict heading (reverse steps)
  ends = laws.ends heading Patterns h pe place value (reverse steps) log kept conflicts

  all_followed : followed heading (Taken (Write pe place value) ∷ conflicts.older)
      ≡ Run (suc (length conflicts.older)) (Some (line_of (length conflicts.older)))
  all_followed =
      let count : length (reverse steps) ≡ suc (length conflicts.older) = ap length conflicts.last in
      let at : ends.older ≡ length conflicts.older = let other = ends.count in omega (arith, count, other) in
      ap (followed heading) (sym conflicts.last)
      ∙ ap (λ (r : Result State ℕ). followed_by (length (reverse steps)) r (first_conflict heading (reverse steps)))
      ends.followed
      ∙ ap (λ (o : Option ℕ). followed_by (length (reverse steps)) (Ok ends.after) o) ends.first
      ∙ ap (λ (n : ℕ). Run n (Some (line_of ends.older))) count
      ∙ ap (λ (n : ℕ). Run (suc (length conflicts.older)) (Some (line_of n))) at

  pub ends_at_write : EndsAtWrite heading (Write pe place value) (steps_text heading (suc (length h)) steps)
  ends_at_write = record {
    older = conflicts.older;
    read = run_read lines heading log.header steps (suc (length h)) all_fit most events (omega (arith, few))
        ∙ ap (whole heading) conflicts.last;
    followed = all_followed;
  }
