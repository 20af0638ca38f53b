-- The run that is computed is the run that the relation names.
use Rattle.bbm_rules.proofs.Common.{◌≡◌, ℕ, true, false, ◌&&◌, ◌↔◌, List, [], ◌∷◌, ◌++◌, length, Option, Some, None}
use Rattle.bbm_rules.proofs.Common.{Result, Ok, Err, refl, sym, ◌∙◌, ap, and_from, and_parts, not_from_false, not-true}
use Rattle.bbm_rules.proofs.Common.{bind_some, Start, Extend, Combine, Share, Drop, any, Barrier, Heading, Event, Dsb}
use Rattle.bbm_rules.proofs.Common.{Issued, completes, unanswered, itself}
use Rattle.bbm_lemmas.proofs.Bools.{and_apart, second_false}
use Rattle.bbm_lemmas.proofs.Words.{if_so_some, some_if_so}
use Rattle.bbm_tlb_machine.specs.declared.step.Step.{Step}
use Rattle.bbm_tlb_machine.specs.declared.step.Step.TheVariants.{Machine, Event as Taken}
use Rattle.bbm_tlb_machine.specs.Entry.{Entry}
use Rattle.bbm_tlb_machine.specs.MachineRun.{IsRun, Leads, LeavesNone, Living, State, entry_at, next_in, follow_steps}
use Rattle.bbm_tlb_machine.specs.MachineRun.{leaves_some, or_index, step_to, without}
use Rattle.bbm_tlb_machine.specs.First.{IsFirstBad}
use Rattle.bbm_tlb_machine.specs.Entry.{is_given_up}
use Rattle.bbm_tlb_machine.specs.Step.{Extends, Starts, may_extend, may_start, must_go}
use Rattle.bbm_tlb_machine.proofs.ListWords.{is_none, none_in}

module _ (heading : Heading) where
  pub starts_from : (h : List Event) (x : Entry) (n : ℕ) → may_start heading h x n ≡ true → Starts heading h x n
  starts_from h x n k =
      let a = and_parts _ _ k in
      let b = and_parts _ _ a.0 in
      let c = and_parts _ _ b.0 in
      record { tag = c.0; numbered = c.1; readable = b.1; valid = a.1 }

  starts_to : (h : List Event) (x : Entry) (n : ℕ) → Starts heading h x n → may_start heading h x n ≡ true
  starts_to h x n s = and_from _ _ (and_from _ _ (and_from _ _ s.tag s.numbered) s.readable) s.valid

  pub extends_from : (h : List Event) (x : Entry) (place value : ℕ) → may_extend heading h x place value ≡ true
      → Extends heading h x place value
  extends_from h x place value k =
      let a = and_parts _ _ k in
      let b = and_parts _ _ a.0 in
      let c = and_parts _ _ b.0 in
      record { goes_on = not-true (is_given_up heading h x) c.0; below = c.1; readable = b.1; valid = a.1 }

  extends_to : (h : List Event) (x : Entry) (place value : ℕ) → Extends heading h x place value
      → may_extend heading h x place value ≡ true
  extends_to h x place value s =
      and_from _ _ (and_from _ _ (and_from _ _ (not_from_false (is_given_up heading h x) s.goes_on) s.below) s.readable) s.valid

  -- the entries that a DSB would leave
  leaves_from : (s : State) (q : ℕ) (dsb : Barrier) → leaves_some heading s (Dsb q dsb) ≡ false → LeavesNone heading s (Dsb q dsb)
  leaves_from s q dsb k t i e l j =
      none_in (λ (l : Living). must_go heading t l.entry) s.living (second_false (completes dsb t.tlbi) _
      (none_in (λ (t : Issued Event). completes dsb t.tlbi && any (λ (l : Living). must_go heading t l.entry) s.living)
      (unanswered itself q s.log) k t i) e) l j

  leaves_to : (s : State) (q : ℕ) (dsb : Barrier) → LeavesNone heading s (Dsb q dsb) → leaves_some heading s (Dsb q dsb) ≡ false
  leaves_to s q dsb all =
      is_none (λ (t : Issued Event). completes dsb t.tlbi && any (λ (l : Living). must_go heading t l.entry) s.living)
      (unanswered itself q s.log) (λ t i. and_apart (completes dsb t.tlbi) _ (λ e.
      is_none (λ (l : Living). must_go heading t l.entry) s.living (all t i e)))

  leaves_none : (s : State) (e : Event) → leaves_some heading s e ≡ false → LeavesNone heading s e
  leaves_none s (Dsb q dsb) k = leaves_from s q dsb k
  leaves_none s _ k = tt

  none_left : (s : State) (e : Event) → LeavesNone heading s e → leaves_some heading s e ≡ false
  none_left s (Dsb q dsb) k = leaves_to s q dsb k
  none_left s _ k = refl

  sound : (s : State) (step : Step) (next : State) → step_to heading s step ≡ Some next → Leads heading s step next
  sound s (Machine (Start p kind n place value)) next k =
      let r = if_so_some _ _ next k in (starts_from s.log _ n r.0, r.1)
  sound s (Machine (Extend n place value)) next k =
      let r = bind_some _ (entry_at s n) next k in
      let q = if_so_some _ _ next r.2 in (r.0, r.1, extends_from s.log r.0 place value q.0, q.1)
  sound s (Machine (Combine n)) next k =
      let r = bind_some _ (entry_at s n) next k in let q = if_so_some _ _ next r.2 in (r.0, r.1, q.0, q.1)
  sound s (Machine (Share n p)) next k =
      let r = bind_some _ (entry_at s n) next k in let q = if_so_some _ _ next r.2 in (r.0, r.1, q.0, q.1)
  sound s (Machine (Drop n)) next k =
      let r = bind_some _ (entry_at s n) next k in
      let same : next ≡ without s n = cc (r.2) in (r.0, r.1, same)
  sound s (Taken e) next k =
      let q = if_so_some _ _ next k in (leaves_none s e (not-true (leaves_some heading s e) q.0), q.1)

  complete : (s : State) (step : Step) (next : State) → Leads heading s step next → step_to heading s step ≡ Some next
  complete s (Machine (Start p kind n place value)) next l = some_if_so _ _ next (starts_to s.log _ n l.0) l.1
  complete s (Machine (Extend n place value)) next l =
      rw (l.1) (some_if_so _ _ next (extends_to s.log l.0 place value l.2) l.3)
  complete s (Machine (Combine n)) next l = rw (l.1) (some_if_so _ _ next l.2 l.3)
  complete s (Machine (Share n p)) next l = rw (l.1) (some_if_so _ _ next l.2 l.3)
  complete s (Machine (Drop n)) next l = rw (l.1) (ap Some (sym l.2))
  complete s (Taken e) next l = some_if_so _ _ next (not_from_false _ (none_left s e l.0)) l.1

  -- runs
  or_ok : (o : Option State) (i : ℕ) (next : State) → or_index o i ≡ Ok next → o ≡ Some next
  or_ok None i next k = cc
  or_ok (Some s) i next k = cc

  next_ok : (r : Result State ℕ) (step : Step) (i : ℕ) (next : State) → next_in heading r step i ≡ Ok next
      → (before : State) × (r ≡ Ok before) × (step_to heading before step ≡ Some next)
  next_ok (Ok s) step i next k = (s, refl, or_ok (step_to heading s step) i next k)
  next_ok (Err j) step i next k = cc

  pub run_sound : (steps : List Step) (s : State) → follow_steps heading steps ≡ Ok s → IsRun heading steps s
  run_sound [] s k = cc
  run_sound (step ∷ steps) s k =
      let r = next_ok (follow_steps heading steps) step (length steps) s k in
      (r.0, run_sound steps r.0 r.1, sound r.0 step s r.2)

  pub run_complete : (steps : List Step) (s : State) → IsRun heading steps s → follow_steps heading steps ≡ Ok s
  run_complete [] s k = ap Ok (sym k)
  run_complete (step ∷ steps) s k = rw (run_complete steps k.0 k.1, complete k.0 step s k.2)

  -- the first step that is none
  or_err : (o : Option State) (i j : ℕ) → or_index o i ≡ Err j → (o ≡ None) × (i ≡ j)
  or_err None i j k = (refl, cc)
  or_err (Some s) i j k = cc

  stops_here : (step : Step) (steps : List Step) (s : State) (j : ℕ) → follow_steps heading steps ≡ Ok s
      → or_index (step_to heading s step) (length steps) ≡ Err j → IsFirstBad heading (step ∷ steps) j
  stops_here step steps s j r k =
      let e = or_err (step_to heading s step) (length steps) j k in
      record {
        newer = [];
        step = step;
        older = steps;
        before = s;
        split = refl;
        index = e.1;
        run = run_sound steps s r;
        none = λ next l. let led : step_to heading s step ≡ Some next = complete s step next l in cc;
      }

  stops_later : (step : Step) (steps : List Step) (j : ℕ) → IsFirstBad heading steps j → IsFirstBad heading (step ∷ steps) j
  stops_later step steps j s = record {
    newer = step ∷ s.newer;
    step = s.step;
    older = s.older;
    before = s.before;
    split = ap (λ es. step ∷ es) s.split;
    index = s.index;
    run = s.run;
    none = s.none;
  }

  stops_after : (step : Step) (steps : List Step) (j : ℕ) (r : Result State ℕ) → follow_steps heading steps ≡ r
      → (follow_steps heading steps ≡ Err j → IsFirstBad heading steps j)
      → next_in heading r step (length steps) ≡ Err j → IsFirstBad heading (step ∷ steps) j
  stops_after step steps j (Ok s) e rest k = stops_here step steps s j e k
  stops_after step steps j (Err i) e rest k =
      let same : follow_steps heading steps ≡ Err j = cc in stops_later step steps j (rest same)

  stop_sound : (steps : List Step) (j : ℕ) → follow_steps heading steps ≡ Err j → IsFirstBad heading steps j
  stop_sound [] j k = cc
  stop_sound (step ∷ steps) j k = stops_after step steps j (follow_steps heading steps) refl (stop_sound steps j) k

  none_is : (o : Option State) → ((next : State) → o ≡ Some next → ⊥) → o ≡ None
  none_is None all = refl
  none_is (Some s) all = absurd (all s refl)

  stop_at : (newer : List Step) (step : Step) (older : List Step) (s : State) → follow_steps heading older ≡ Ok s
      → step_to heading s step ≡ None → follow_steps heading (newer ++ step ∷ older) ≡ Err (length older)
  stop_at [] step older s r k = rw (r, k)
  stop_at (x ∷ newer) step older s r k = rw (stop_at newer step older s r k)

  stop_complete : (steps : List Step) (j : ℕ) → IsFirstBad heading steps j → follow_steps heading steps ≡ Err j
  stop_complete steps j s =
      ap (follow_steps heading) s.split
      ∙ stop_at s.newer s.step s.older s.before (run_complete s.older s.before s.run)
      (none_is (step_to heading s.before s.step) (λ next k. s.none next (sound s.before s.step next k)))
      ∙ ap Err s.index

pub leads_law : (heading : Heading) (s : State) (step : Step) (next : State)
    → Leads heading s step next ↔ (step_to heading s step ≡ Some next)
leads_law heading s step next = (complete heading s step next, sound heading s step next)

pub run_law : (heading : Heading) (steps : List Step) (s : State) → IsRun heading steps s ↔ (follow_steps heading steps ≡ Ok s)
run_law heading steps s = (run_complete heading steps s, run_sound heading steps s)

pub stop_law : (heading : Heading) (steps : List Step) (i : ℕ) → IsFirstBad heading steps i ↔ (follow_steps heading steps ≡ Err i)
stop_law heading steps i = (stop_complete heading steps i, stop_sound heading steps i)
