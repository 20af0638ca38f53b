use Rattle.bbm_rules.proofs.Common.{Some, ◌∙◌, ap, sym, MachineLine}
use Rattle.bbm_tlb_machine.specs.declared.step.Step.TheVariants.{Machine}
use Rattle.bbm_tlb_machine.specs.MachineRun.{State, step_to}
use Rattle.bbm_tlb_machine.proofs.FollowSteps.{made_step}
use Rattle.bbm_tlb_machine.proofs.machine.Machine.take_line.Goals as goal

pub returns-in-Drop-clause-step : goal.returns-in-Drop-clause-step
returns-in-Drop-clause-step c =
    ap (λ (line : MachineLine). step_to c.args.header.now c.args.self.now.state (Machine line)) c.in-Drop.is
    ∙ c.drop_entry.ensures.step c.args.header.now

pub returns-in_ok-add-in-Some-clause-step : goal.returns-in_ok-add-in-Some-clause-step
returns-in_ok-add-in-Some-clause-step c =
    made_step c.args.header.now c.args.self.now.state c.args.line.now c.in-Some.entry (sym c.in-Some.is ∙ c.in_ok-entry.ensures)
    ∙ ap (λ (s : State). Some s) (sym c.in_ok-add-in-Some.ensures.state)
