-- The first step that is none, and the first event at which a clause of Safe fails, as what `follow` and `conflict`
-- name. Lists are newest first. Source: project's own choice.
use Rattle.std.specs.Prelude.{◌≡◌, ℕ, true, List, ◌∷◌, ◌++◌, length, None}
use Rattle.bbm_rules.specs.Prelude.{Heading, Event}
use Rattle.bbm_tlb_machine.specs.declared.step.Step.{Step}
use Rattle.bbm_tlb_machine.specs.declared.step.Step.TheVariants.{Event as Taken}
use Rattle.bbm_tlb_machine.specs.MachineRun.{IsRun, Leads, State}
use Rattle.bbm_tlb_machine.specs.Safe.{first_conflict, in_conflict}

-- The step with this index, counted from 0, is the first that is none: the older ones are a run, and it leads nowhere
-- from there.
pub record IsFirstBad (heading : Heading) (steps : List Step) (i : ℕ) : Type 0 where
  pub newer : List Step
  pub step : Step
  pub older : List Step
  pub before : State
  pub split : steps ≡ newer ++ step ∷ older
  pub index : length older ≡ i
  pub run : IsRun heading older before
  pub none : (next : State) → Leads heading before step next → ⊥

-- The step with this index is the first event at which a clause fails: the older steps are a run, the event conflicts
-- after them, and at no earlier one a clause fails.
pub record IsFirstConflict (heading : Heading) (steps : List Step) (i : ℕ) : Type 0 where
  pub newer : List Step
  pub event : Event
  pub older : List Step
  pub before : State
  pub split : steps ≡ newer ++ Taken event ∷ older
  pub index : length older ≡ i
  pub run : IsRun heading older before
  pub conflict : in_conflict heading before event ≡ true
  pub first : first_conflict heading older ≡ None
