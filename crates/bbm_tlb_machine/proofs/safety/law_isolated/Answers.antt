use Rattle.bbm_tlb_machine.proofs.IsolatedLaw.{isolated_log}
use Rattle.bbm_tlb_machine.proofs.safety.law_isolated.Goals as goal

pub returns : goal.returns
returns c heading trust log is_log kept on =
    isolated_log heading trust (c.known.ensures heading trust is_log.header) log is_log kept on
