use Rattle.bbm_rules.proofs.Common.{◌≡◌, ◌++◌, map, take}
use Rattle.bbm_tlb_machine.specs.declared.step.Step.TheVariants.{Event as Taken}
use Rattle.bbm_counterrun.proofs.runs.add_events.Given as goal

abbrev pub invariant-loop-event : goal.invariant-loop-event
invariant-loop-event l = record {
  so_far : l.steps.items ≡ l.fn.steps.items ++ map Taken (take l.event-index l.events);
}
