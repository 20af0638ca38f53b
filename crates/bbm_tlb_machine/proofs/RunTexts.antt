-- The words in which the worked cases are written: the text of a run, and the text of what comes of it.
use Rattle.bbm_rules.proofs.Common.{codes, String, Item}
use Rattle.std.specs.Prelude.{ℕ, ◌+◌, List, [], ◌∷◌, ◌++◌, length, reverse, filter_map, Option, Some, None, Result, Ok}
use Rattle.std.specs.Prelude.{Err, decimal}
use Rattle.std.specs.Fmt.{digits}
use Rattle.bbm_events.specs.declared.event.Item.TheVariants as item
use Rattle.bbm_events.specs.declared.malformed.Malformed.{Malformed}
use Rattle.bbm_events.specs.Heading.{Heading}
use Rattle.bbm_events.specs.Lines.{header_of, item_of}
use Rattle.bbm_events.specs.Machine.{machine_of}
use Rattle.bbm_events.specs.Spelling.{decimal_value, hex_value}
use Rattle.bbm_tlb_machine.specs.declared.step.Step.{Step}
use Rattle.bbm_tlb_machine.specs.declared.step.Step.TheVariants.{Machine, Event as Taken}
use Rattle.bbm_tlb_machine.specs.MachineRun.{State, follow_steps}
use Rattle.bbm_tlb_machine.specs.Safe.{first_conflict}

-- the step of a line, None of the last line
abbrev pub event_step : Result Item Malformed → Option Step
event_step (Ok (item.Event event label)) = Some (Taken event)
event_step _ = None

unfoldable pub step_of : Heading → String → Option Step
unfolding machine_of item_of decimal_value hex_value
step_of heading line = elim (machine_of heading (codes line)) [
  | Ok step ↦ Some (Machine step)
  | Err cause ↦ event_step (item_of heading (codes line))
]

-- a step is named by its line; the first step stands on line 2
abbrev pub told : ℕ → Result State ℕ → Option ℕ → List ℕ
told n (Err i) conflict = codes "bad step line " ++ decimal (i + 2)
told n (Ok s) None = codes "run " ++ decimal n ++ codes " steps"
told n (Ok s) (Some i) = codes "run " ++ decimal n ++ codes " steps conflict line " ++ decimal (i + 2)

abbrev pub told_of : Heading → List Step → List ℕ
told_of heading steps = told (length steps) (follow_steps heading steps) (first_conflict heading steps)

unfoldable pub followed : List String → List ℕ
unfolding digits header_of step_of decimal_value hex_value
followed [] = []
followed (line ∷ lines) = elim (header_of (codes line)) [
  | Ok heading ↦ told_of heading (reverse (filter_map (step_of heading) lines))
  | Err cause ↦ []
]
