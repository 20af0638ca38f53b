-- The words in which the worked cases are written: the events of the lines of a log, and the steps of those of a run.
use Rattle.bbm_counterrun.proofs.Common.{List, [], ◌∷◌, Option, Some, None, Step}
use Rattle.bbm_rules.proofs.Common.{codes, String, Item, Heading, Event}
use Rattle.std.specs.Prelude.{filter_map, Result, Ok, Err}
use Rattle.std.specs.Fmt.{digits}
use Rattle.bbm_events.specs.declared.event.Item.TheVariants as item
use Rattle.bbm_events.specs.declared.malformed.Malformed.{Malformed}
use Rattle.bbm_events.specs.Lines.{header_of, item_of}
use Rattle.bbm_events.specs.Spelling.{decimal_value, hex_value}
use Rattle.bbm_tlb_machine.proofs.RunTexts.{step_of}

abbrev pub event_in : Result Item Malformed → Option Event
event_in (Ok (item.Event event label)) = Some event
event_in _ = None

unfoldable pub event_of : Heading → String → Option Event
unfolding item_of decimal_value hex_value
event_of heading line = event_in (item_of heading (codes line))

-- what is said of the heading and the events of a log, oldest first, and of its last event and those before it, newest
-- first
unfoldable pub of_events : {A : Type 0} → List String → (Heading → List Event → A) → Option A
unfolding digits header_of event_of decimal_value hex_value
of_events [] f = None
of_events (line ∷ lines) f = elim (header_of (codes line)) [
  | Ok heading ↦ Some (f heading (filter_map (event_of heading) lines))
  | Err cause ↦ None
]

abbrev pub before_last : {A : Type 0} → (List Event → Event → A) → List Event → Option A
before_last f [] = None
before_last f (e ∷ h) = Some (f h e)

-- the steps of a run, oldest first
unfoldable pub steps_of : List String → Option (List Step)
unfolding digits header_of step_of decimal_value hex_value
steps_of [] = None
steps_of (line ∷ lines) = elim (header_of (codes line)) [
  | Ok heading ↦ Some (filter_map (step_of heading) lines)
  | Err cause ↦ None
]
