-- What the program says of a run, and which bytes it reads for it.
-- Source: project's own choice.
use Rattle.std.specs.Prelude.{◌≡◌, ◌⊎◌, ℕ, Bool, true, false, List, [], Option, Some}
use Rattle.bbm_events.specs.Heading.{Heading}
use Rattle.bbm_rules.specs.Fold.{Text}
use Rattle.bbm_tlb_machine.specs.declared.step.Step.{Step}
use Rattle.bbm_follow.specs.Following.{Reached, AtHeader, AtSteps, after_line, following, is_step, RunSays, Stopped}
use Rattle.bbm_follow.specs.Following.{Whole, followed, run_of}
use Rattle.bbm_texts.specs.declared.status.Status.{Status}
use Rattle.bbm_session.specs.Run.{ReadFor, ReadToWant}
use Rattle.bbm_texts.specs.Statuses.{followed_status, status_of}

-- the status of a run
abbrev pub run_status : RunSays → Status
run_status (Stopped verdict) = status_of verdict
run_status (Whole heading steps) = followed_status (followed heading steps)

-- These bytes were read and those left unread for what is said of a run: the whole text, also where a step is none; or
-- those up to the line that stops reading, as for a verdict.
abbrev pub RunReadFor : RunSays → Text → List ℕ → Type 0
RunReadFor (Stopped verdict) read unread = ReadFor verdict read unread
RunReadFor (Whole heading steps) read unread = unread ≡ []

-- whether memory is needed for line number n: it is one more step
abbrev pub step_needs : ℕ → Reached → List ℕ → Bool
step_needs number (AtSteps heading steps) line = is_step (after_line number (AtSteps heading steps) line)
step_needs number _ line = false

-- There was no memory to follow a run that was read whole.
pub record RunUnfollowed (bytes : List ℕ) (left : Option (List ℕ)) : Type 0 where
  pub heading : Heading
  pub steps : List Step
  pub whole : (run_of bytes).says ≡ Whole heading steps
  pub now : left ≡ Some []

-- where there is no memory for a run
abbrev pub RunWants : List ℕ → Option (List ℕ) → Type 0
RunWants bytes left =
    ReadToWant following AtHeader (λ number reached line. step_needs number reached line ≡ true) bytes left
    ⊎ RunUnfollowed bytes left
