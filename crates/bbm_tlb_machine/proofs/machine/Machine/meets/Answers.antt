use Rattle.bbm_rules.proofs.Common.{◌≡◌, List, reverse, ◌∙◌, ap, rules, any}
use Rattle.bbm_tlb_machine.specs.MachineRun.{Living}
use Rattle.bbm_tlb_machine.specs.Safe.{conflicts_with}
use Rattle.bbm_tlb_machine.proofs.FollowSteps.{if_ok}
use Rattle.bbm_tlb_machine.proofs.machine.Machine.meets.Goals as goal

pub returns : goal.returns
returns c =
    let living : c.deref-2.result.now ≡ c.args.self.now.state.living = search rules in
    let log : reverse c.deref.result.now ≡ c.args.self.now.state.log = search rules in
    if_ok c.in_conflict.result _ _ c.in_conflict.ensures
    (λ b k h e.
    k h (log ∙ e)
    ∙ ap (λ (ls : List Living). any (λ l. conflicts_with c.args.header.now h c.args.event.now l.entry) ls) living)
