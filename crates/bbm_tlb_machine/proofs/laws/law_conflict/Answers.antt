use Rattle.bbm_tlb_machine.proofs.SafeLaw.{found_law, none_law, safe_law}
use Rattle.bbm_tlb_machine.proofs.laws.law_conflict.Goals as goal

pub returns : goal.returns
returns c = record { safe = safe_law c.law_equality_tests.ensures; none = none_law; first = found_law }
