-- What the laws of runs, of conflicts and of the entries of logs that keep the rules state.
-- Source: project's own choice.
use Rattle.std.specs.Prelude.{◌≡◌, ◌↔◌, ℕ, true, false, List, ◌∷◌, ◌++◌, Some, None, Ok, Err, Contains}
use Rattle.bbm_rules.specs.Broken.{keeps}
use Rattle.bbm_rules.specs.Claims.{Trust}
use Rattle.bbm_rules.specs.Prelude.{Heading, Event}
use Rattle.bbm_tlb_machine.specs.Entry.{is_given_up}
use Rattle.bbm_tlb_machine.specs.First.{IsFirstBad, IsFirstConflict}
use Rattle.bbm_tlb_machine.specs.Invariant.{Fine, Taken}
use Rattle.bbm_tlb_machine.specs.Isolated.{IsolatedBySay, WalksTables}
use Rattle.bbm_tlb_machine.specs.MachineRun.{IsRun, Leads, Living, State, follow_steps, step_to}
use Rattle.bbm_tlb_machine.specs.Safe.{ComesTo, IsLog, OneRootATag, Safe, first_conflict, in_conflict}
use Rattle.bbm_tlb_machine.specs.declared.step.Step.{Step}
use Rattle.bbm_tlb_machine.specs.declared.step.Step.TheVariants.{Event as EventStep}

-- A list of steps is a run to a state exactly where following it comes to that state, one step after the other; and
-- following it stops exactly at the first step that leads nowhere.
pub record RunsAreFollowed : Type 0 where
  pub step : (heading : Heading) (s : State) (step : Step) (next : State)
      → Leads heading s step next ↔ (step_to heading s step ≡ Some next)
  pub run : (heading : Heading) (steps : List Step) (s : State)
      → IsRun heading steps s ↔ (follow_steps heading steps ≡ Ok s)
  pub stop : (heading : Heading) (steps : List Step) (i : ℕ)
      → IsFirstBad heading steps i ↔ (follow_steps heading steps ≡ Err i)

-- A log is safe exactly where in no run over it the test for a conflict finds one at the next event. A step is the
-- first at which a clause fails exactly where that test first finds one there.
pub record ConflictsAreTested : Type 0 where
  pub safe : (heading : Heading) (log : List Event)
      → Safe heading log ↔ ((s : State) (e : Event) → ComesTo heading log s e → in_conflict heading s e ≡ false)
  pub none : (heading : Heading) (steps : List Step) → first_conflict heading steps ≡ None
      → (newer : List Step) (e : Event) (older : List Step) (s : State)
      → steps ≡ newer ++ EventStep e ∷ older → IsRun heading older s → in_conflict heading s e ≡ false
  pub first : (heading : Heading) (steps : List Step) (i : ℕ)
      → IsFirstConflict heading steps i ↔ (first_conflict heading steps ≡ Some i)

module _ (heading : Heading) (trust : Trust) where
  -- In each run over a log that keeps the rules, each entry that some TLB keeps is fine; and each unanswered TLBI that
  -- covers a place of a part of it takes it.
  pub record EntriesAreFine : Type 0 where
    pub fine : (steps : List Step) (s : State) → IsLog heading s.log → keeps heading trust s.log ≡ true
        → IsRun heading steps s → (l : Living) → Contains s.living l → Fine heading trust s.log l.entry
    pub taken : (steps : List Step) (s : State) → IsLog heading s.log → keeps heading trust s.log ≡ true
        → IsRun heading steps s → (l : Living) → Contains s.living l → is_given_up heading s.log l.entry ≡ false
        → Taken heading trust s.log l.entry

  -- every log that keeps the rules is safe
  abbrev pub KeptIsSafe : Type 0
  KeptIsSafe = (log : List Event) → IsLog heading log → keeps heading trust log ≡ true → Safe heading log

  -- in every log that keeps the rules there is one root a tag
  abbrev pub KeptHasOneRoot : Type 0
  KeptHasOneRoot = (log : List Event) → IsLog heading log → keeps heading trust log ≡ true → OneRootATag heading log

  -- every log that keeps the rules is isolated, where its header has the word
  abbrev pub KeptIsIsolated : Type 0
  KeptIsIsolated = (log : List Event) → IsLog heading log → keeps heading trust log ≡ true
      → IsolatedBySay trust heading log

  -- in every log that keeps the rules what walks read are table pages
  abbrev pub KeptWalksTables : Type 0
  KeptWalksTables = (log : List Event) → IsLog heading log → keeps heading trust log ≡ true
      → WalksTables heading trust log
