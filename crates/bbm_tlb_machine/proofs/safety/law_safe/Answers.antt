use Rattle.bbm_tlb_machine.proofs.Runs.{safe_log}
use Rattle.bbm_tlb_machine.proofs.safety.law_safe.Goals as goal

pub returns : goal.returns
returns c heading trust log is_log kept =
    safe_log heading trust (c.known.ensures heading trust is_log.header) log is_log kept
