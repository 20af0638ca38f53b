-- What the program's words ask for, and what it says.
-- Source: project's own choice.
use Rattle.std.specs.Prelude.{◌≡◌, ◌⊎◌, ℕ, suc, ◌≤◌, List, [], ◌∷◌, ◌++◌, length, Option, Some, None, option_map}
use Rattle.std.specs.Prelude.{Result, Ok, IsOk, Bool, true, false, codes, bytes_eq, if◌then◌else◌}
use Rattle.bbm_rules.specs.declared.verdict.Verdict.{Verdict}
use Rattle.bbm_rules.specs.declared.verdict.Verdict.TheVariants.{Accepted, Refused, Malformed, Limit}
use Rattle.bbm_events.specs.declared.event.Item.{Item}
use Rattle.bbm_events.specs.declared.event.Item.TheVariants as item
use Rattle.bbm_events.specs.declared.malformed.Malformed.{Malformed as Cause}
use Rattle.bbm_events.specs.declared.event.Event.{Event}
use Rattle.bbm_events.specs.Heading.{Heading}
use Rattle.bbm_events.specs.Lines.{header_of, item_of}
use Rattle.bbm_rules.specs.Answers.{rewrites, takes_no_memory}
use Rattle.bbm_rules.specs.Claims.{Patterns}
use Rattle.bbm_rules.specs.declared.limits.Limits.{Limits}
use Rattle.bbm_rules.specs.Fold.{Fold, Text, lines_from, text_of}
use Rattle.bbm_rules.specs.Outcome.{check_limits, slow_limits, outcome_of, verdict_of_bytes, Progress, AtHeader}
use Rattle.bbm_rules.specs.Outcome.{AtEvents, AtEnd, Judged, judging}
use Rattle.bbm_report.specs.Further.{heading_in}
use Rattle.bbm_report.specs.Questions.{walk_asked}
use Rattle.bbm_texts.specs.declared.commands.Command.{Command}
use Rattle.bbm_texts.specs.declared.commands.Command.TheVariants.{Check, Slow, Explain, Walk, Show}
use Rattle.bbm_texts.specs.declared.commands.Evidence.TheVariants.{Idle, Counterrun, Cert}
use Rattle.bbm_texts.specs.declared.status.Status.{Status}
use Rattle.bbm_texts.specs.declared.status.Status.TheVariants as status
use Rattle.bbm_texts.specs.Says.{IsOutput, MayShowEvidence}

-- the command of one word
abbrev pub command_at : List ℕ → Option Command
command_at word =
    if bytes_eq word (codes "check") then Some Check
    else (if bytes_eq word (codes "slow") then Some Slow
    else (if bytes_eq word (codes "explain") then Some Explain
    else (if bytes_eq word (codes "counterrun") then Some (Show Counterrun)
    else (if bytes_eq word (codes "cert") then Some (Show Cert)
    else (if bytes_eq word (codes "idle") then Some (Show Idle) else None)))))

abbrev pub command_alone : List (List ℕ) → Option Command
command_alone (word ∷ []) = command_at word
command_alone _ = None

-- the first of two
abbrev pub or_else : {A : Type 0} → Option A → Option A → Option A
or_else (Some first) other = Some first
or_else None other = other

-- The command that the words say, None where they say none: a command of one word, or a walk.
abbrev pub command_of : List (List ℕ) → Option Command
command_of words = or_else (command_alone words) (option_map Walk (walk_asked words))

-- the limits under which a command judges a log
abbrev pub limits_of : Command → Limits
limits_of Check = check_limits
limits_of Slow = slow_limits
limits_of Explain = check_limits
limits_of (Walk question) = check_limits
limits_of (Show evidence) = slow_limits

-- the fold by which a command judges the lines of a log
abbrev pub judging_for : Command → Fold Progress Judged
judging_for command = judging Patterns (limits_of command)

-- The text of a command for these bytes: by their verdict, the events before the line that decides, and the event of
-- that line where it is refused.
abbrev pub IsTextOf : Command → List ℕ → List ℕ → Type 0
IsTextOf command bytes text =
    let judged : Judged = (outcome_of Patterns (limits_of command) bytes).says in
    IsOutput command (heading_in (text_of bytes).lines) judged.log judged.refused judged.verdict text

-- the text of a command for a verdict, where it isn't told what was read
abbrev pub IsSomeText : Command → Verdict → List ℕ → Type 0
IsSomeText command verdict text =
    (heading : Option Heading) × (h : List Event) × (refused : Option Event)
    × IsOutput command heading h refused verdict text

-- whether a status says that the text of a verdict was written whole
abbrev pub tells_verdict : Status → Bool
tells_verdict status.Accepted = true
tells_verdict status.Refused = true
tells_verdict status.Malformed = true
tells_verdict status.Limit = true
tells_verdict _ = false

-- These bytes were read and those left unread for a verdict that names a line: the whole lines up to it; or the lines
-- before it, and of it 201 bytes, which have no newline, or all bytes of an input that ends there.
abbrev pub UpTo : ℕ → Text → List ℕ → Type 0
UpTo line read unread =
    ((length read.lines ≡ line) × (read.rest ≡ []))
    ⊎ ((suc (length read.lines) ≡ line) × ((length read.rest ≡ 201) ⊎ (unread ≡ [])))

-- the same for any verdict: an accepted log is read to its end
abbrev pub ReadFor : Verdict → Text → List ℕ → Type 0
ReadFor (Accepted events) read unread = unread ≡ []
ReadFor (Refused line rule at label) read unread = UpTo line read unread
ReadFor (Malformed line cause) read unread = UpTo line read unread
ReadFor (Limit line which) read unread = UpTo line read unread

-- What is left of these bytes, where what was read of them and what wasn't are as wanted.
abbrev pub ReadAs : (Text → List ℕ → Type 0) → List ℕ → Option (List ℕ) → Type 0
ReadAs wanted bytes left =
    (read : List ℕ) × (unread : List ℕ) × (bytes ≡ read ++ unread) × (left ≡ Some unread) × wanted (text_of read) unread

-- What is left of these bytes, where all before was read for this verdict.
abbrev pub ReadTo : List ℕ → Verdict → Option (List ℕ) → Type 0
ReadTo bytes verdict left = ReadAs (ReadFor verdict) bytes left

-- Reading stopped before a verdict was known: these bytes were read of what was left.
pub record ReadPart (bytes : List ℕ) (left : Option (List ℕ)) : Type 0 where
  pub read : List ℕ
  pub unread : List ℕ
  pub is : bytes ≡ read ++ unread
  pub now : left ≡ Some unread

-- A read failed: none of the lines that were read stops reading, and of the next one at most 200 bytes were read.
pub record ReadToFault {P V : Type 0} (fold : Fold P V) (start : P) (bytes : List ℕ) (left : Option (List ℕ))
    : Type 0 where
  pub part : ReadPart bytes left
  pub reached : P
  pub undecided : lines_from fold 1 start (text_of part.read).lines ≡ Some reached
  pub short : length (text_of part.read).rest ≤ 200

-- There was no memory: what was read ends with a line that needs memory, by its number and how far the lines before it
-- are read, and none of these stops reading.
pub record ReadToWant {P V : Type 0} (fold : Fold P V) (start : P) (Needs : ℕ → P → List ℕ → Type 0)
    (bytes : List ℕ) (left : Option (List ℕ)) : Type 0 where
  pub part : ReadPart bytes left
  pub before : List (List ℕ)
  pub line : List ℕ
  pub reached : P
  pub lines : text_of part.read ≡ record { lines = before ++ line ∷ []; rest = [] }
  pub undecided : lines_from fold 1 start before ≡ Some reached
  pub short : length line ≤ 200
  pub needs : Needs (suc (length before)) reached line

-- An event for which new room may be needed, after these: it is none of `dsb`, `dmb`, `isb`, `lock` and `unlock`, and
-- no write that attaches nothing at a place that was written since the last init of its page.
abbrev pub NeedsRoom : Heading → List Event → Event → Type 0
NeedsRoom heading h event = (takes_no_memory event ≡ false) × (rewrites heading h event ≡ false)

-- The events for which a command may find no memory: each event where the command keeps them all, and for the others,
-- which keep none, those that need new room.
abbrev pub EventNeeds : Command → Heading → List Event → Event → Type 0
EventNeeds Slow heading h event = Unit {0}
EventNeeds (Show evidence) heading h event = Unit {0}
EventNeeds Check heading h event = NeedsRoom heading h event
EventNeeds Explain heading h event = NeedsRoom heading h event
EventNeeds (Walk question) heading h event = NeedsRoom heading h event

abbrev pub ItemNeeds : Command → Heading → List Event → Result Item Cause → Type 0
ItemNeeds command heading h (Ok (item.Event event label)) = EventNeeds command heading h event
ItemNeeds command heading h _ = ⊥

-- A line for which a command may find no memory: the header, or such an event.
abbrev pub NeedsMemory : Command → Progress → List ℕ → Type 0
NeedsMemory command AtHeader line = IsOk (header_of line)
NeedsMemory command (AtEvents heading h) line = ItemNeeds command heading h (item_of heading line)
NeedsMemory command (AtEnd h) line = ⊥

-- There was no memory for what is shown: all was read that the verdict needs.
pub record ShownWant (command : Command) (bytes : List ℕ) (left : Option (List ℕ)) : Type 0 where
  pub shows : MayShowEvidence command (verdict_of_bytes Patterns (limits_of command) bytes)
  pub read : ReadTo bytes (verdict_of_bytes Patterns (limits_of command) bytes) left

-- There was no memory, for a line or for what is shown.
abbrev pub Wants : Command → List ℕ → Option (List ℕ) → Type 0
Wants command bytes left =
    ReadToWant (judging_for command) AtHeader (λ number. NeedsMemory command) bytes left
    ⊎ ShownWant command bytes left
