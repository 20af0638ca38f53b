use Rattle.bbm_tlb_machine.proofs.IsolatedLaw.{walks_tables}
use Rattle.bbm_tlb_machine.proofs.safety.law_walks_tables.Goals as goal

pub returns : goal.returns
returns c heading trust log is_log kept =
    walks_tables heading trust (c.known.ensures heading trust is_log.header) log is_log kept
