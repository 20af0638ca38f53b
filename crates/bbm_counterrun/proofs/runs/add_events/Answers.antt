use Rattle.bbm_rules.proofs.Common.{take, refl}
use Rattle.bbm_lemmas.proofs.Elements.{taken_more}
use Rattle.bbm_tlb_machine.specs.declared.step.Step.TheVariants.{Event as Taken}
use Rattle.bbm_counterrun.proofs.MapCode.{map_next}
use Rattle.bbm_counterrun.proofs.runs.add_events.Goals as goal

pub loop-event-preserved : goal.loop-event-preserved
loop-event-preserved c = record {
  so_far = map_next Taken (take c.loop-event.event-index c.args.events.now) _ c.event-item.result _ c.args.steps.now.items
      c.loop-event.steps.items c.add.new.steps.items
      (taken_more c.args.events.now c.loop-event.event-index c.event-item.result c.loop-event-test.true c.event-item.is) refl
      c.loop-event.invariant.so_far c.in_ok-add.ensures;
}
