-- The verdict on a list of bytes: a fold over its lines. It knows nothing of a reader or of a checker.
-- Source: project's own choice.
use Rattle.std.specs.Option.{option_map_or}
use Rattle.std.specs.Prelude.{ℕ, false, Bool, ◌==◌, nat_le, List, [], ◌∷◌, length, Option, Some, None, Result, Ok, Err}
use Rattle.std.specs.Prelude.{if◌then◌else◌}
use Rattle.bbm_regimes.specs.declared.regime.Which.{Which}
use Rattle.bbm_regimes.specs.declared.regime.Which.TheVariants.{LineBytes, Events, Lines}
use Rattle.bbm_events.specs.declared.event.Event.{Event}
use Rattle.bbm_events.specs.declared.event.Item.{Item}
use Rattle.bbm_events.specs.declared.event.Item.TheVariants as item
use Rattle.bbm_events.specs.declared.malformed.Malformed.{Malformed as Cause}
use Rattle.bbm_events.specs.declared.malformed.Malformed.TheVariants.{NoEnd, WrongCount, AfterEnd}
use Rattle.bbm_events.specs.Heading.{Heading}
use Rattle.bbm_events.specs.Lines.{header_of, item_of}
use Rattle.bbm_rules.specs.declared.limits.Limits.{Limits}
use Rattle.bbm_rules.specs.declared.verdict.Verdict.{Verdict}
use Rattle.bbm_rules.specs.declared.verdict.Verdict.TheVariants.{Accepted, Refused, Malformed, Limit}
use Rattle.bbm_rules.specs.Broken.{Breach, broken}
use Rattle.bbm_rules.specs.Claims.{Trust}
use Rattle.bbm_rules.specs.Fold.{Turned, Halts, Passes, Fold, Ending, ending_at, header_by}
use Rattle.bbm_rules.specs.Limits.{limit_of}

-- the limits of `check`, `explain` and `walk`: a log of any number of events, in lines whose numbers stay below
-- 2^32 - 1
abbrev pub check_limits : Limits
check_limits = record { events = None; lines = 4294967295 }

-- the limits of `slow`, which searches the whole history
abbrev pub slow_limits : Limits
slow_limits = record { events = Some 2000; lines = 4294967295 }

-- whether so many reach a limit, so that one more would pass it
abbrev pub is_reached : Option ℕ → ℕ → Bool
is_reached limit count = option_map_or (λ n. nat_le n count) limit false

-- the limit of the command that one more event, on this line, reaches after so many
abbrev pub limit_after : Limits → ℕ → ℕ → Option Which
limit_after limits number count =
    if is_reached limits.events count then Some Events else (if nat_le limits.lines number then Some Lines else None)

-- the limit that an event of this line reaches after a history: that of the history first
abbrev pub limit_at : Limits → ℕ → List Event → Option Which → Option Which
limit_at limits number h (Some which) = Some which
limit_at limits number h None = limit_after limits number (length h)

-- how far the lines were read: none; the header and these events, the newest first; the end after these
-- events
pub data Progress : Type 0 where
  AtHeader : Progress
  AtEvents : Heading → List Event → Progress
  AtEnd : List Event → Progress

-- the events of the lines read so far, the newest first
abbrev pub events_in : Progress → List Event
events_in AtHeader = []
events_in (AtEvents heading h) = h
events_in (AtEnd h) = h

-- What is said of a list of bytes: the verdict, the event of its line where it refuses one, and the events before the
-- line that decides, the newest first.
pub record Judged : Type 0 where
  pub verdict : Verdict
  pub refused : Option Event
  pub log : List Event

-- a verdict that refuses no event
abbrev pub unrefused : List Event → Verdict → Judged
unrefused h verdict = record { verdict = verdict; refused = None; log = h }

-- The order within one line: a malformed line, a broken rule, a limit. A label of the event
-- goes into the verdict that refuses it, and into no history.

-- an event that keeps the rules, by the limit that it reaches
abbrev pub after_kept : ℕ → Heading → List Event → Event → Option Which → Turned Progress Judged
after_kept number heading h event (Some which) = Halts (unrefused h (Limit number which))
after_kept number heading h event None = Passes (AtEvents heading (event ∷ h))

abbrev pub after_judged : Limits → ℕ → Heading → List Event → Event → Option (List ℕ) → Option Breach
    → Turned Progress Judged
after_judged limits number heading h event label (Some breach) =
    Halts (record { verdict = Refused number breach.rule breach.at label; refused = Some event; log = h })
after_judged limits number heading h event label None =
    after_kept number heading h event (limit_at limits number h (limit_of h event))

abbrev pub after_event : Trust → Limits → ℕ → Heading → List Event → Event → Option (List ℕ) → Turned Progress Judged
after_event trust limits number heading h event label =
    after_judged limits number heading h event label (broken heading trust h event)

abbrev pub after_item : Trust → Limits → ℕ → Heading → List Event → Result Item Cause → Turned Progress Judged
after_item trust limits number heading h (Ok (item.Event event label)) =
    after_event trust limits number heading h event label
after_item trust limits number heading h (Ok (item.End count)) =
    if count == length h then Passes (AtEnd h) else Halts (unrefused h (Malformed number WrongCount))
after_item trust limits number heading h (Err cause) = Halts (unrefused h (Malformed number cause))

-- A line of at most 200 bytes.
abbrev pub after_line : Trust → Limits → ℕ → Progress → List ℕ → Turned Progress Judged
after_line trust limits number AtHeader line =
    header_by (λ heading. AtEvents heading []) (unrefused []) number (header_of line)
after_line trust limits number (AtEvents heading h) line =
    after_item trust limits number heading h (item_of heading line)
after_line trust limits number (AtEnd h) line = Halts (unrefused h (Malformed number AfterEnd))

-- A line that is too long, or the bytes after the last newline: more than 200 of them reach the limit of
-- a line, unless an `end` line came before.
abbrev pub too_long_at : ℕ → Progress → Verdict
too_long_at number (AtEnd h) = Malformed number AfterEnd
too_long_at number _ = Limit number LineBytes

-- The end of the input, after these bytes since the last newline.
abbrev pub cut_at : ℕ → Progress → List ℕ → Verdict
cut_at number (AtEnd h) [] = Accepted (length h)
cut_at number (AtEnd h) (byte ∷ rest) = Malformed number AfterEnd
cut_at number AtHeader rest = Malformed number NoEnd
cut_at number (AtEvents heading h) rest = Malformed number NoEnd

-- the events of a log are judged
unfoldable pub judging : Trust → Limits → Fold Progress Judged
judging trust limits = record {
  line = after_line trust limits;
  long = λ n p. unrefused (events_in p) (too_long_at n p);
  cut = λ n p rest. unrefused (events_in p) (cut_at n p rest);
}

-- what is said of a list of bytes, and which of them need not be read for it
abbrev pub outcome_of : Trust → Limits → List ℕ → Ending Judged
outcome_of trust limits bytes = ending_at (judging trust limits) 1 AtHeader bytes

abbrev pub verdict_of_bytes : Trust → Limits → List ℕ → Verdict
verdict_of_bytes trust limits bytes = (outcome_of trust limits bytes).says.verdict
