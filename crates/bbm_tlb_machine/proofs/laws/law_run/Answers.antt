use Rattle.bbm_tlb_machine.proofs.RunLaw.{leads_law, run_law, stop_law}
use Rattle.bbm_tlb_machine.proofs.laws.law_run.Goals as goal

pub returns : goal.returns
returns c = record { step = leads_law; run = run_law; stop = stop_law }
