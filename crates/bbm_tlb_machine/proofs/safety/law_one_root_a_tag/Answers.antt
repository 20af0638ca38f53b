use Rattle.bbm_tlb_machine.proofs.Runs.{one_root_log}
use Rattle.bbm_tlb_machine.proofs.safety.law_one_root_a_tag.Goals as goal

pub returns : goal.returns
returns c heading trust log is_log kept =
    one_root_log heading trust (c.known.ensures heading trust is_log.header) log is_log kept
