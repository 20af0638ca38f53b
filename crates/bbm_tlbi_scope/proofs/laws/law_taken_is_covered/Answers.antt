use Rattle.bbm_tlbi_scope.proofs.TakesCovers.{taken_covers}
use Rattle.bbm_tlbi_scope.proofs.laws.law_taken_is_covered.Goals as goal

pub returns : goal.returns
returns c = taken_covers
