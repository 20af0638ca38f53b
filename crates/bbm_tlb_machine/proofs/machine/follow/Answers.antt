use Rattle.bbm_tlb_machine.proofs.FollowSteps.{bad_there, same_fault}
use Rattle.bbm_tlb_machine.proofs.machine.follow.Goals as goal

pub returns-in-Err-clause-bad_step : goal.returns-in-Err-clause-bad_step
returns-in-Err-clause-bad_step c = λ i e.
    bad_there c.args.header.now c.args.steps.now.items c.deref-step-items.result.now c.loop-step.step-index c.loop-step.taken i
    c.step-item.result c.loop-step.machine c.deref-step-items.ensures.value c.loop-step-test.true c.step-item.is
    c.loop-step.invariant.counted c.loop-step.invariant.follows
    (c.in-Err.ensures.bad_step i (same_fault _ _ e))
