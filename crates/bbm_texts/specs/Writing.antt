-- What became of a text that was to be written.
-- Source: project's own choice.
use Rattle.std.specs.Prelude.{◌≡◌, ℕ, ◌<◌, List, ◌++◌, length, take, Option, Result, Ok, Err, ◌⊎◌}
use Rattle.bbm_io.specs.Faults.{Rose}
use Rattle.bbm_io.specs.Flow.{extended}
use Rattle.bbm_io.specs.declared.source.Failed.{Failed}
use Rattle.bbm_cert.specs.declared.judged.Judged.{Judged as JudgedBy}
use Rattle.bbm_events.specs.declared.event.Event.{Event}
use Rattle.bbm_events.specs.Heading.{Heading}
use Rattle.bbm_follow.specs.declared.followed.Followed.{Followed}
use Rattle.bbm_follow.specs.Following.{followed_text}
use Rattle.bbm_idle.specs.Idle.{idle_marks}
use Rattle.bbm_rules.specs.declared.verdict.Verdict.{Verdict}
use Rattle.bbm_rules.specs.Texts.{verdict_text}
use Rattle.bbm_texts.specs.declared.commands.Command.{Command}
use Rattle.bbm_texts.specs.declared.decision.Decision.{Decision}
use Rattle.bbm_texts.specs.declared.status.Status.{Status}
use Rattle.bbm_texts.specs.declared.status.Status.TheVariants as status
use Rattle.bbm_texts.specs.Generating.{selftest_text}
use Rattle.bbm_texts.specs.Says.{IsOutputFor, MayShowEvidence, judged_text}
use Rattle.bbm_texts.specs.Shown.{marked_lines}
use Rattle.bbm_texts.specs.Statuses.{followed_status, judged_status, status_of}

-- a proper prefix of the text was added to what the sink holds
pub record Part (text : List ℕ) (old new : Option (List ℕ)) : Type 0 where
  pub count : ℕ
  pub proper : count < length text
  pub added : new ≡ extended old (take count text)

-- The text was added whole, and the sink's count of faults stays; or a write failed, which comes only where the count
-- rose, and a proper prefix was added.
abbrev pub Puts : List ℕ → Result (Unit {0}) Failed → Option (List ℕ) → Option (List ℕ) → ℕ → ℕ → Type 0
Puts text (Ok _) old new faults faults' = (new ≡ extended old text) × (faults' ≡ faults)
Puts text (Err _) old new faults faults' = Part text old new × Rose faults faults'

-- the same by the status: the wanted one where the text was added whole
abbrev pub Wrote : Status → List ℕ → Status → Option (List ℕ) → Option (List ℕ) → ℕ → ℕ → Type 0
Wrote wanted text result old new faults faults' =
    ((result ≡ wanted) × (new ≡ extended old text) × (faults' ≡ faults))
    ⊎ ((result ≡ status.WriteFault) × Rose faults faults' × Part text old new)

-- nothing was written, and this is the status
abbrev pub Silent : Status → Status → Option (List ℕ) → Option (List ℕ) → ℕ → ℕ → Type 0
Silent wanted result old new faults faults' = (result ≡ wanted) × (new ≡ old) × (faults' ≡ faults)

-- a text like this was to be written with this status
abbrev pub WroteSome : (List ℕ → Type 0) → Status → Status → Option (List ℕ) → Option (List ℕ) → ℕ → ℕ → Type 0
WroteSome Text wanted result old new faults faults' =
    (text : List ℕ) × Text text × Wrote wanted text result old new faults faults'

-- a text like this was to be written with this status, or there was no memory for it
abbrev pub ReportsText : (List ℕ → Type 0) → Status → Status → Option (List ℕ) → Option (List ℕ) → ℕ → ℕ → Type 0
ReportsText Text wanted result old new faults faults' =
    WroteSome Text wanted result old new faults faults' ⊎ Silent status.NoMemory result old new faults faults'

-- The text of a command for what was decided was to be written, or there was no memory for what it shows.
abbrev pub ReportsDecided : Command → Option Heading → List Event → Decision → Status → Option (List ℕ)
    → Option (List ℕ) → ℕ → ℕ → Type 0
ReportsDecided command heading h decision result old new faults faults' =
    WroteSome (IsOutputFor command heading h decision) (status_of decision.verdict) result old new faults faults'
    ⊎ (MayShowEvidence command decision.verdict × Silent status.NoMemory result old new faults faults')

-- a verdict with the lines of idle events behind it was to be written, or there was no memory for these
abbrev pub ReportsIdle : Heading → List Event → Verdict → Status → Option (List ℕ) → Option (List ℕ) → ℕ → ℕ → Type 0
ReportsIdle heading h verdict result old new faults faults' =
    Wrote (status_of verdict) (verdict_text verdict ++ marked_lines (idle_marks heading h)) result old new faults faults'
    ⊎ Silent status.NoMemory result old new faults faults'

-- What became of the line on a run that was read whole, if there was memory to follow it
abbrev pub ReportsRun : {E : Type 0} → Result Followed E → Status → Option (List ℕ) → Option (List ℕ) → ℕ → ℕ → Type 0
ReportsRun (Ok told) result old new faults faults' =
    Wrote (followed_status told) (followed_text told) result old new faults faults'
ReportsRun (Err _) result old new faults faults' = Silent status.NoMemory result old new faults faults'

-- the same of the line on a log that was read whole with its certificate, with so many events and claims, if there was
-- memory to judge it
abbrev pub ReportsJudged : {E : Type 0} → ℕ → ℕ → Result JudgedBy E → Status → Option (List ℕ) → Option (List ℕ) → ℕ → ℕ
    → Type 0
ReportsJudged events claims (Ok told) result old new faults faults' =
    Wrote (judged_status told) (judged_text events claims told) result old new faults faults'
ReportsJudged events claims (Err _) result old new faults faults' = Silent status.NoMemory result old new faults faults'

-- a generated log was judged and the text of that was written, or there was no memory and nothing was written
abbrev pub Tested : ℕ → ℕ → Status → Option (List ℕ) → Option (List ℕ) → ℕ → ℕ → Type 0
Tested n count result held held' writes writes' =
    Wrote status.Accepted (selftest_text n count) result held held' writes writes'
    ⊎ Silent status.NoMemory result held held' writes writes'

-- This much of a text was written, whole and without a fault, and the rest of it is buffered.
abbrev pub Buffered : List ℕ → List ℕ → Option (List ℕ) → Option (List ℕ) → ℕ → ℕ → Type 0
Buffered text buffer old new faults faults' =
    (done : List ℕ) × (text ≡ done ++ buffer) × (new ≡ extended old done) × (faults' ≡ faults)

-- the same, or a write failed
abbrev pub Pours : List ℕ → Result (Unit {0}) Failed → List ℕ → Option (List ℕ) → Option (List ℕ) → ℕ → ℕ → Type 0
Pours text (Ok _) buffer old new faults faults' = Buffered text buffer old new faults faults'
Pours text (Err _) buffer old new faults faults' = Part text old new × Rose faults faults'
