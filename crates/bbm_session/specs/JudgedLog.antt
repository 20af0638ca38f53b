-- What is known of a log that was judged. No public contract cites these words.
use Rattle.std.specs.Prelude.{ℕ, Bool, List, Option, Some}
use Rattle.bbm_events.specs.declared.event.Event.{Event}
use Rattle.bbm_events.specs.Heading.{Heading}
use Rattle.bbm_rules.specs.declared.limits.Limits.{Limits}
use Rattle.bbm_rules.specs.Outcome.{Progress, AtHeader, events_in}
use Rattle.bbm_session.specs.declared.stop.Stop.{Stop}
use Rattle.bbm_session.specs.Readers.{log_reader}
use Rattle.bbm_session.specs.Stages.{IsBrief, KnowsAt, Stops}
use Rattle.bbm_session.specs.Serving.{Heads}

-- A log with this header was judged up to the line that decides: what a source had left and has left, and the events
-- before that line, for which the checker stands.
pub record JudgedLog (frugal : Bool) (stands : Heading → List Event → Type 0) (limits : Limits) (heading : Heading)
    (stop : Stop) (old new : Option (List ℕ)) (faults faults' : ℕ) : Type 0 where
  pub reached : Progress
  -- the header is that of the first line
  pub heads : Heads old (Some heading)
  -- the verdict, and the bytes that stay unread for it
  pub stops : Stops (log_reader frugal limits) 1 AtHeader old stop reached new faults faults'
  -- where the log is accepted, or an event refused, the events before keep the rules, and the event that is refused is
  -- told
  pub known : KnowsAt stands heading (events_in reached) stop

-- A log was not judged: its first line is no header, or there was no memory for a checker.
pub record Unjudged (frugal : Bool) (limits : Limits) (stop : Stop) (old new : Option (List ℕ)) (faults faults' : ℕ)
    : Type 0 where
  pub stops : Stops (log_reader frugal limits) 1 AtHeader old stop AtHeader new faults faults'
  pub brief : IsBrief stop
