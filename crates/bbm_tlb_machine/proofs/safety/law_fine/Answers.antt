use Rattle.bbm_tlb_machine.proofs.Runs.{run_fine, run_taken}
use Rattle.bbm_tlb_machine.proofs.safety.law_fine.Goals as goal

pub returns : goal.returns
returns c heading trust = record {
  fine = λ steps s is_log kept.
      run_fine heading trust (c.known.ensures heading trust is_log.header) steps s is_log kept;
  taken = λ steps s is_log kept.
      run_taken heading trust (c.known.ensures heading trust is_log.header) steps s is_log kept;
}
