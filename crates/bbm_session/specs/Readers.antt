-- The readers of the lines of a log: one judges its events, one keeps the steps of a run, and one keeps the events and
-- the claims of a certificate behind them. No public contract cites these words.
use Rattle.std.specs.Prelude.{◌≡◌, ℕ, ◌+◌, ◌≤◌, Bool, true, false, not, ◌&&◌, is_ok, List, [], length, reverse, Option}
use Rattle.std.specs.Prelude.{Result, Ok, Err}
use Rattle.bbm_events.specs.declared.event.Event.{Event}
use Rattle.bbm_events.specs.declared.event.Item.{Item}
use Rattle.bbm_events.specs.declared.event.Item.TheVariants as item
use Rattle.bbm_events.specs.declared.malformed.Malformed.{Malformed as Cause}
use Rattle.bbm_events.specs.Heading.{Heading}
use Rattle.bbm_events.specs.Lines.{header_of, item_of}
use Rattle.bbm_rules.specs.Answers.{rewrites, takes_no_memory}
use Rattle.bbm_rules.specs.Claims.{Patterns}
use Rattle.bbm_rules.specs.declared.limits.Limits.{Limits}
use Rattle.bbm_rules.specs.declared.verdict.Verdict.TheVariants.{Accepted, Malformed, Limit}
use Rattle.bbm_rules.specs.Outcome.{Progress, AtHeader, AtEvents, AtEnd, Judged, events_in, judging, unrefused}
use Rattle.bbm_tlb_machine.specs.declared.step.Step.{Step as MachineStep}
use Rattle.bbm_log_grammar.specs.declared.turn.LineFault.{LineFault}
use Rattle.bbm_log_grammar.specs.declared.turn.LineFault.TheVariants as fault
use Rattle.bbm_follow.specs.Following as run
use Rattle.bbm_certificate.specs.declared.kept.Kept.{Kept}
use Rattle.bbm_certificate.specs.CertificateReading as read
use Rattle.bbm_session.specs.Certificates.{certified_needs}
use Rattle.bbm_texts.specs.declared.commands.Command.{Command}
use Rattle.bbm_texts.specs.declared.commands.Command.TheVariants.{Check, Slow, Explain, Walk, Show}
use Rattle.bbm_session.specs.Reader.{Reader, alone}
use Rattle.bbm_session.specs.Run.{limits_of}
use Rattle.bbm_session.specs.Runs.{step_needs}
use Rattle.bbm_session.specs.Stages.{KnowsAt, Stops, judged_after}
use Rattle.bbm_texts.specs.Known.{Keeps}
use Rattle.bbm_texts.specs.declared.decision.Decision.{Decision}
use Rattle.bbm_session.specs.declared.stop.Stop.{Stop}
use Rattle.bbm_session.specs.declared.stop.Stop.TheVariants.{Decided, NoMemory}
use Rattle.bbm_log_grammar.specs.declared.turn.Turn.{Turn}

-- whether memory may be needed for an event, by a checker that is frugal or not
abbrev pub event_needs : Bool → Heading → List Event → Event → Bool
event_needs true heading h event = not (takes_no_memory event) && not (rewrites heading h event)
event_needs false heading h event = true

abbrev pub item_needs : Bool → Heading → List Event → Result Item Cause → Bool
item_needs frugal heading h (Ok (item.Event event label)) = event_needs frugal heading h event
item_needs frugal heading h _ = false

abbrev pub line_needs : Bool → Progress → List ℕ → Bool
line_needs frugal AtHeader line = is_ok (header_of line)
line_needs frugal (AtEvents heading h) line = item_needs frugal heading h (item_of heading line)
line_needs frugal (AtEnd h) line = false

-- whether the checker of a command is frugal: those of `slow` and of what shows more keep all events
abbrev pub is_frugal : Command → Bool
is_frugal Slow = false
is_frugal (Show evidence) = false
is_frugal Check = true
is_frugal Explain = true
is_frugal (Walk question) = true

abbrev pub judged_at : Progress → Decision → Judged
judged_at p decision = judged_after (events_in p) decision

-- the events of a log are judged, by a checker that is frugal or not
abbrev pub log_reader : Bool → Limits → Reader Progress Judged
log_reader frugal limits = record {
  lines = judging Patterns limits;
  stopped = judged_at;
  whole = λ p. unrefused (events_in p) (Accepted (length (events_in p)));
  needs = λ n. line_needs frugal;
}

abbrev pub reader_for : Command → Reader Progress Judged
reader_for command = log_reader (is_frugal command) (limits_of command)

-- A checker stands for a history of this header, whose events are on the lines before this one.
pub record Judges (frugal : Bool) (stands : Heading → List Event → Type 0) (limits : Limits)
    (reader : Reader Progress Judged) (heading : Heading) (p : Progress) (n : ℕ) : Type 0 where
  pub h : List Event
  pub reader_is : reader ≡ log_reader frugal limits
  pub is : p ≡ AtEvents heading h
  pub keeps : Keeps stands heading h
  pub number : n ≡ length h + 2

-- Why reading stopped behind the header, and what the checker stands for.
pub record StopsKnown (frugal : Bool) (stands : Heading → List Event → Type 0) (limits : Limits)
    (heading : Heading) (p : Progress) (stop : Stop) (old new : Option (List ℕ)) (faults faults' : ℕ) : Type 0 where
  pub reached : Progress
  pub stops : Stops (log_reader frugal limits) 2 p old stop reached new faults faults'
  pub known : KnowsAt stands heading (events_in reached) stop

abbrev pub whole_run : run.Reached → run.RunSays
whole_run (run.AtSteps heading steps) = run.Whole heading steps
whole_run (run.AtEnd heading steps) = run.Whole heading steps
whole_run run.AtHeader = run.Stopped (Accepted 0)

-- the steps of a run are kept
abbrev pub run_reader : Reader run.Reached run.RunSays
run_reader = record {
  lines = run.following;
  stopped = λ p decision. run.Stopped decision.verdict;
  whole = whole_run;
  needs = step_needs;
}

-- these steps, the oldest first, are on the lines before this one
pub record Follows (kept : List MachineStep) (reader : Reader run.Reached run.RunSays) (heading : Heading)
    (p : run.Reached) (n : ℕ) : Type 0 where
  pub reader_is : reader ≡ run_reader
  pub is : p ≡ run.AtSteps heading (reverse kept)
  pub number : n ≡ length kept + 2
  pub few : length kept ≤ 2000

-- what the session makes of line number n that was taken or not
abbrev pub Turns : ℕ → Result Turn LineFault → Result Turn Stop → Type 0
Turns n (Ok turn) result = result ≡ Ok turn
Turns n (Err (fault.Malformed cause)) result = result ≡ Err (Decided (alone (Malformed n cause)))
Turns n (Err (fault.Limit which)) result = result ≡ Err (Decided (alone (Limit n which)))
Turns n (Err fault.NoMemory) result = result ≡ Err NoMemory

abbrev pub whole_read : read.Reached → read.CertificateSays
whole_read (read.AtEvents heading h) = read.Whole heading h []
whole_read (read.BehindLog heading h) = read.Whole heading h []
whole_read (read.AtClaims heading h claims) = read.Whole heading h claims
whole_read (read.AtEnd heading h claims) = read.Whole heading h claims
whole_read read.AtHeader = read.Stopped (Accepted 0)

-- the events of a log and the claims of its certificate are kept
abbrev pub certificate_reader : Reader read.Reached read.CertificateSays
certificate_reader = record {
  lines = read.certifying;
  stopped = λ p decision. read.Stopped decision.verdict;
  whole = whole_read;
  needs = certified_needs;
}

-- what is kept of the lines before this one, which are a log and claims
pub record Certifies (kept : Kept) (reader : Reader read.Reached read.CertificateSays) (heading : Heading)
    (p : read.Reached)
    (n : ℕ) : Type 0 where
  pub reader_is : reader ≡ certificate_reader
  pub is : p ≡ read.kept_at heading kept
  pub sound : read.IsSound (read.kept_at heading kept)
  pub number : n ≡ read.next_number (read.kept_at heading kept)
  pub listed : read.claims_by kept.part kept.claims.items ≡ kept.claims.items
