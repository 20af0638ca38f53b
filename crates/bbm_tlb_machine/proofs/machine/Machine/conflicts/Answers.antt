use Rattle.bbm_tlb_machine.proofs.FollowSteps.{conflict_with, if_ok}
use Rattle.bbm_tlb_machine.proofs.machine.Machine.conflicts.Goals as goal

pub returns : goal.returns
returns c =
    if_ok c.meets.result _ _ c.meets.ensures
    (λ b k s e. conflict_with c.args.header.now c.args.self.now.state s c.args.event.now b e k)
