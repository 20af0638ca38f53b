-- What `counterrun` writes: the text of a conflict run. A history is newest first, the steps of a run are oldest first.
-- Source: project's own choice.
use Rattle.std.specs.Prelude.{◌≡◌, ℕ, suc, Bool, true, false, List, [], ◌∷◌, ◌++◌, length, Option, Some, None, codes}
use Rattle.bbm_counterrun.specs.Plans.{Finds}
use Rattle.bbm_counterrun.specs.RefusedWrite.{ends_at_leaf}
use Rattle.bbm_events.specs.declared.event.Event.{Event}
use Rattle.bbm_events.specs.declared.event.Item.TheVariants as item
use Rattle.bbm_events.specs.Heading.{Heading}
use Rattle.bbm_events.specs.Lines.{header_line, item_line}
use Rattle.bbm_events.specs.Machine.{machine_line}
use Rattle.bbm_rules.specs.declared.rule.Rule.{Rule}
use Rattle.bbm_rules.specs.declared.rule.Rule.TheVariants.{BreakBeforeMake}
use Rattle.bbm_rules.specs.declared.verdict.Verdict.{Verdict}
use Rattle.bbm_rules.specs.declared.verdict.Verdict.TheVariants.{Refused}
use Rattle.bbm_rules.specs.Texts.{verdict_text}
use Rattle.bbm_texts.specs.Generating.{ended}
use Rattle.bbm_tlb_machine.specs.declared.step.Step.{Step}
use Rattle.bbm_tlb_machine.specs.declared.step.Step.TheVariants as step

-- the line of a step: that of an event has no label
abbrev pub step_line : Step → List ℕ
step_line (step.Event event) = item_line (item.Event event None)
step_line (step.Machine line) = machine_line line

-- the lines of steps
abbrev pub step_lines : List Step → List ℕ
step_lines [] = []
step_lines (s ∷ steps) = ended (step_line s) ++ step_lines steps

-- The text of a run over so many events, as `follow` reads it: the header, the lines of its steps, and the end.
abbrev pub steps_text : Heading → ℕ → List Step → List ℕ
steps_text heading count steps = ended (header_line heading) ++ step_lines steps ++ ended (item_line (item.End count))

-- the text of the run that was found, if there is one
abbrev pub found_steps : Heading → ℕ → Option (List Step) → List ℕ
found_steps heading count None = codes "none\n"
found_steps heading count (Some steps) = steps_text heading count steps

-- the event that the rule of break-before-make refuses, None where the verdict is another
abbrev pub refused_by : Rule → Option Event → Option Event
refused_by BreakBeforeMake refused = refused
refused_by _ refused = None

abbrev pub refused_write : Option Event → Verdict → Option Event
refused_write refused (Refused line rule at label) = refused_by rule refused
refused_write refused _ = None

-- The text for an event that is refused so after h. Where it is a write at a place that holds a leaf, the run of the first
-- plain conflict run at it, or that there is none; else the line of the verdict.
abbrev pub RunAt : Bool → Heading → List Event → Event → Verdict → List ℕ → Type 0
RunAt true heading h e verdict text =
    (found : Option (List Step)) × Finds heading h e found × (text ≡ found_steps heading (suc (length h)) found)
RunAt false heading h e verdict text = text ≡ verdict_text verdict

-- the same of an event, if there is one
abbrev pub RunOf : Heading → List Event → Verdict → List ℕ → Option Event → Type 0
RunOf heading h verdict text None = text ≡ verdict_text verdict
RunOf heading h verdict text (Some e) = RunAt (ends_at_leaf heading (e ∷ h)) heading h e verdict text
