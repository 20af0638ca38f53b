-- A conflict run over events that keep the rules conflicts at its last step alone.
use Rattle.bbm_counterrun.proofs.Common.{append_assoc, Step, Machine, RunsAreFollowed, IsRun, State, IsLog}
use Rattle.bbm_counterrun.proofs.Common.{first_conflict, in_conflict}
use Rattle.bbm_rules.proofs.Common.{◌≡◌, ℕ, true, false, List, [], ◌∷◌, ◌++◌, length, Option, Some, None, Result, Ok}
use Rattle.bbm_rules.proofs.Common.{refl, sym, ◌∙◌, ap, subst, true≢false, Start, Extend, Combine, Share, Drop, keeps}
use Rattle.bbm_rules.proofs.Common.{Trust, Heading, Event, Write}
use Rattle.bbm_tlb_machine.specs.declared.step.Step.TheVariants.{Event as Taken}
use Rattle.bbm_tlb_machine.specs.First.{IsFirstConflict}
use Rattle.bbm_tlb_machine.specs.MachineLaws.{ConflictsAreTested, KeptIsSafe}
use Rattle.bbm_tlb_machine.specs.MachineRun.{Leads, after_event, follow_steps, next_in}
use Rattle.bbm_tlb_machine.specs.Safe.{Safe}
use Rattle.bbm_counterrun.specs.Plans.{EndsInConflict, IsConflictRun}

-- the laws of runs, of conflicts and of safe logs
pub record RunLaws (heading : Heading) (trust : Trust) : Type 0 where
  pub runs : RunsAreFollowed
  pub conflicts : ConflictsAreTested
  pub kept : KeptIsSafe heading trust

-- the log of a state begins with that of an earlier one
pub record Grows (s t : State) : Type 0 where
  pub later : List Event
  pub split : t.log ≡ later ++ s.log

module _ (heading : Heading) where
  pub grows_by : (s t : State) (step : Step) → Leads heading s step t → Grows s t
  grows_by s t (Machine (Start p kind n place value)) l = record { later = []; split = ap (λ (u : State). u.log) l.1 }
  grows_by s t (Machine (Extend n place value)) l = record { later = []; split = ap (λ (u : State). u.log) l.3 }
  grows_by s t (Machine (Combine n)) l = record { later = []; split = ap (λ (u : State). u.log) l.3 }
  grows_by s t (Machine (Share n p)) l = record { later = []; split = ap (λ (u : State). u.log) l.3 }
  grows_by s t (Machine (Drop n)) l = record { later = []; split = ap (λ (u : State). u.log) l.2 }
  grows_by s t (Taken e) l = record { later = e ∷ []; split = ap (λ (u : State). u.log) l.1 }

  -- the state that a run was in after its older steps
  record Passed (older : List Step) (t : State) : Type 0 where
    at : State
    run : IsRun heading older at
    grows : Grows at t

  passed : (newer older : List Step) (t : State) → IsRun heading (newer ++ older) t → Passed older t
  passed [] older t run = record { at = t; run = run; grows = record { later = []; split = refl } }
  passed (step ∷ newer) older t run =
      let p : Passed older run.0 = passed newer older run.0 run.1 in
      let g : Grows run.0 t = grows_by run.0 t step run.2 in record {
        at = p.at;
        run = p.run;
        grows = record {
          later = g.later ++ p.grows.later;
          split = g.split ∙ ap (λ es. g.later ++ es) p.grows.split ∙ sym (append_assoc g.later p.grows.later p.at.log);
        };
      }

  module _ (trust : Trust) (laws : RunLaws heading trust) where
    one_state : (steps : List Step) (s t : State) → IsRun heading steps s → IsRun heading steps t → s ≡ t
    one_state steps s t a b =
        let one = (laws.runs.run heading steps s).0 a in let other = (laws.runs.run heading steps t).0 b in cc

    -- no earlier step conflicts
    earlier_is_quiet : (h : List Event) (steps : List Step) (before : State) → Safe heading h → IsRun heading steps before → before.log ≡ h
        → first_conflict heading steps ≡ None
    earlier_is_quiet h steps before safe run over = by (first_conflict heading steps) refl
      where
        apart : (i : ℕ) → IsFirstConflict heading steps i → ⊥
        apart i c =
            let p : Passed (Taken c.event ∷ c.older) before
            = passed c.newer (Taken c.event ∷ c.older) before (subst (λ (ss : List Step). IsRun heading ss before) c.split run) in
            let r = p.run in
            let same : r.0 ≡ c.before = one_state c.older r.0 c.before r.1 c.run in
            let log : p.at.log ≡ c.event ∷ c.before.log = ap (λ (u : State). u.log) r.2.1 ∙ ap (λ (u : State). c.event ∷ u.log) same in
            let split : h ≡ p.grows.later ++ c.event ∷ c.before.log = sym over ∙ p.grows.split ∙ ap (λ es. p.grows.later ++ es) log in
            let quiet : in_conflict heading c.before c.event ≡ false
            = (laws.conflicts.safe heading h).0 safe c.before c.event (record { steps = c.older; run = c.run; later = p.grows.later; split = split }) in
            true≢false (sym c.conflict ∙ quiet)

        by : (o : Option ℕ) → first_conflict heading steps ≡ o → first_conflict heading steps ≡ None
        by None e = e
        by (Some i) e = absurd (apart i ((laws.conflicts.first heading steps i).1 e))

    pub conflict_ends : (h : List Event) (pe place value : ℕ) (steps : List Step) → IsLog heading h → keeps heading trust h ≡ true
        → IsConflictRun heading h (Write pe place value) steps → EndsInConflict heading steps
    conflict_ends h pe place value steps is_log kept c =
        let followed : follow_steps heading c.older ≡ Ok c.before = (laws.runs.run heading c.older c.before).0 c.run in
        let quiet = earlier_is_quiet h c.older c.before (laws.kept h is_log kept) c.run c.over in
        record {
          after = after_event c.before (Write pe place value);
          followed = ap (follow_steps heading) c.last
              ∙ ap (λ (r : Result State ℕ). next_in heading r (Taken (Write pe place value)) (length c.older)) followed;
          older = length c.older;
          count = ap length c.last;
          first = (laws.conflicts.first heading steps (length c.older)).0 (record {
            newer = [];
            event = Write pe place value;
            older = c.older;
            before = c.before;
            split = c.last;
            index = refl;
            run = c.run;
            conflict = c.conflict;
            first = quiet;
          });
        }
