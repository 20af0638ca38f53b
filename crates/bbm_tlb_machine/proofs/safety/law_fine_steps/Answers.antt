use Rattle.bbm_tlb_machine.proofs.FineSteps.{fine_steps}
use Rattle.bbm_tlb_machine.proofs.safety.law_fine_steps.Goals as goal

pub returns : goal.returns
returns c heading trust ok = fine_steps heading trust (c.known.ensures heading trust ok)
