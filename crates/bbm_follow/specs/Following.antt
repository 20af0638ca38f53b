-- What a run says: a log in which lines of machine steps stand between the header and the end. A fold over its lines.
-- The whole text is read before a step that is none is named. Steps are listed newest first.
-- Source: project's own choice.
use Rattle.std.specs.Prelude.{◌≡◌, ℕ, zero, suc, ◌+◌, Bool, true, false, ◌&&◌, ◌==◌, nat_le, List, [], ◌∷◌, ◌++◌}
use Rattle.std.specs.Prelude.{length, Option, Some, None, Result, Ok, Err, codes, decimal, if◌then◌else◌, option_map}
use Rattle.bbm_regimes.specs.declared.regime.Which.TheVariants.{LineBytes, Steps}
use Rattle.bbm_events.specs.declared.event.Item.{Item}
use Rattle.bbm_events.specs.declared.event.Item.TheVariants as item
use Rattle.bbm_events.specs.declared.machine.MachineLine.{MachineLine}
use Rattle.bbm_events.specs.declared.malformed.Malformed.{Malformed as Cause}
use Rattle.bbm_events.specs.declared.malformed.Malformed.TheVariants.{NoEnd, WrongCount, AfterEnd}
use Rattle.bbm_events.specs.Heading.{Heading}
use Rattle.bbm_events.specs.Lines.{header_of, item_of}
use Rattle.bbm_events.specs.Machine.{machine_of}
use Rattle.bbm_rules.specs.declared.verdict.Verdict.{Verdict}
use Rattle.bbm_rules.specs.declared.verdict.Verdict.TheVariants.{Malformed, Limit}
use Rattle.bbm_rules.specs.Fold.{Turned, Halts, Passes, Fold, Ending, ending_at, header_by}
use Rattle.bbm_rules.specs.Texts.{verdict_text}
use Rattle.bbm_tlb_machine.specs.declared.step.Step.{Step}
use Rattle.bbm_tlb_machine.specs.declared.step.Step.TheVariants as step
use Rattle.bbm_tlb_machine.specs.MachineRun.{State, follow_steps}
use Rattle.bbm_tlb_machine.specs.Safe.{first_conflict}
use Rattle.bbm_follow.specs.declared.followed.Followed.{Followed}
use Rattle.bbm_follow.specs.declared.followed.Followed.TheVariants.{Run, BadStep}
use Rattle.bbm_log_grammar.specs.declared.turn.LineFault.{LineFault}
use Rattle.bbm_log_grammar.specs.declared.turn.LineFault.TheVariants as fault
use Rattle.bbm_log_grammar.specs.declared.turn.Turn.{Turn}
use Rattle.bbm_log_grammar.specs.declared.turn.Turn.TheVariants as turn

-- the most events and machine steps of a run
abbrev pub step_limit : ℕ
step_limit = 2000

-- how far the lines of a run were read: none; the header and these steps; the end after these steps
pub data Reached : Type 0 where
  AtHeader : Reached
  AtSteps : Heading → List Step → Reached
  AtEnd : Heading → List Step → Reached

-- What a run says: reading stopped, at a line that is malformed or reaches a limit, or it was read whole: the heading
-- and the steps.
pub data RunSays : Type 0 where
  Stopped : Verdict → RunSays
  Whole : Heading → List Step → RunSays

-- the number of events among steps
abbrev pub event_count : List Step → ℕ
event_count [] = zero
event_count (step.Event e ∷ steps) = suc (event_count steps)
event_count (step.Machine line ∷ steps) = event_count steps

-- one more step: a malformed line comes before the limit of steps
abbrev pub after_step : ℕ → Heading → List Step → Step → Turned Reached RunSays
after_step number heading steps s =
    if nat_le step_limit (length steps) then Halts (Stopped (Limit number Steps))
    else Passes (AtSteps heading (s ∷ steps))

abbrev pub after_end : ℕ → Heading → List Step → ℕ → Turned Reached RunSays
after_end number heading steps count =
    if count == event_count steps then Passes (AtEnd heading steps) else Halts (Stopped (Malformed number WrongCount))

-- a line of the log; a label says nothing here
abbrev pub after_item : ℕ → Heading → List Step → Result Item Cause → Turned Reached RunSays
after_item number heading steps (Ok (item.Event event label)) = after_step number heading steps (step.Event event)
after_item number heading steps (Ok (item.End count)) = after_end number heading steps count
after_item number heading steps (Err cause) = Halts (Stopped (Malformed number cause))

-- a machine line
abbrev pub after_machine : ℕ → Heading → List Step → Result MachineLine Cause → Turned Reached RunSays
after_machine number heading steps (Ok line) = after_step number heading steps (step.Machine line)
after_machine number heading steps (Err cause) = Halts (Stopped (Malformed number cause))

-- a line is a machine line where its first field is `m`: where it is `m`, or begins with `m` and a space
abbrev pub is_machine : List ℕ → Bool
is_machine [] = false
is_machine (first ∷ []) = first == 109
is_machine (first ∷ second ∷ rest) = first == 109 && second == 32

-- a line of at most 200 bytes
abbrev pub after_line : ℕ → Reached → List ℕ → Turned Reached RunSays
after_line number AtHeader line = header_by (λ heading. AtSteps heading []) Stopped number (header_of line)
after_line number (AtSteps heading steps) line =
    if is_machine line then after_machine number heading steps (machine_of heading line)
    else after_item number heading steps (item_of heading line)
after_line number (AtEnd heading steps) line = Halts (Stopped (Malformed number AfterEnd))

-- a line that is too long
abbrev pub too_long_at : ℕ → Reached → Verdict
too_long_at number (AtEnd heading steps) = Malformed number AfterEnd
too_long_at number _ = Limit number LineBytes

-- the end of the input, after these bytes since the last newline
abbrev pub cut_at : ℕ → Reached → List ℕ → RunSays
cut_at number (AtEnd heading steps) [] = Whole heading steps
cut_at number (AtEnd heading steps) (byte ∷ rest) = Stopped (Malformed number AfterEnd)
cut_at number AtHeader rest = Stopped (Malformed number NoEnd)
cut_at number (AtSteps heading steps) rest = Stopped (Malformed number NoEnd)

-- the steps of a run are kept
unfoldable pub following : Fold Reached RunSays
following = record { line = after_line; long = λ n p. Stopped (too_long_at n p); cut = cut_at }

-- what is said of a list of bytes, and which of them need not be read for it
abbrev pub run_of : List ℕ → Ending RunSays
run_of bytes = ending_at following 1 AtHeader bytes

-- Step i, counted from 0, stands on line i + 2.
abbrev pub line_of : ℕ → ℕ
line_of i = i + 2

-- what comes of a run of so many steps: the line of the first step that is none; or that of its first conflict, if it
-- has one
abbrev pub followed_by : ℕ → Result State ℕ → Option ℕ → Followed
followed_by count (Err i) conflict = BadStep (line_of i)
followed_by count (Ok state) conflict = Run count (option_map line_of conflict)

abbrev pub followed : Heading → List Step → Followed
followed heading steps = followed_by (length steps) (follow_steps heading steps) (first_conflict heading steps)

-- the line that says what comes of a run
abbrev pub conflict_text : Option ℕ → List ℕ
conflict_text None = []
conflict_text (Some line) = codes " conflict line " ++ decimal line

unfoldable pub followed_text : Followed → List ℕ
followed_text (BadStep line) = codes "bad step line " ++ decimal line ++ codes "\n"
followed_text (Run count conflict) =
    codes "run " ++ decimal count ++ codes " steps" ++ conflict_text conflict ++ codes "\n"

-- the text of a run
abbrev pub run_text : RunSays → List ℕ
run_text (Stopped verdict) = verdict_text verdict
run_text (Whole heading steps) = followed_text (followed heading steps)

-- whether a line between the header and the end is one more step
abbrev pub is_step : Turned Reached RunSays → Bool
is_step (Passes (AtSteps heading steps)) = true
is_step _ = false

-- What line number n of a run says, by the steps before it and after it: it was taken as a step, or is the end, or
-- reading stops. There may be no memory for a step alone.
abbrev pub TakesLine : ℕ → Heading → List Step → List Step → Result Turn LineFault → Turned Reached RunSays → Type 0
TakesLine number heading old new (Ok turn.Taken) turned = turned ≡ Passes (AtSteps heading new)
TakesLine number heading old new (Ok turn.End) turned = (turned ≡ Passes (AtEnd heading old)) × (new ≡ old)
TakesLine number heading old new (Err (fault.Malformed cause)) turned =
    turned ≡ Halts (Stopped (Malformed number cause))
TakesLine number heading old new (Err (fault.Limit which)) turned = turned ≡ Halts (Stopped (Limit number which))
TakesLine number heading old new (Err fault.NoMemory) turned = is_step turned ≡ true
