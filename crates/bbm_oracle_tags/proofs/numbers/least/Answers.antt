use Rattle.bbm_rules.proofs.Common.{arith, common_steps}
use Rattle.bbm_oracle_tags.proofs.NumberLemmas.{least-push}
use Rattle.bbm_oracle_tags.proofs.numbers.least.Goals as goal

pub loop-number-preserved : goal.loop-number-preserved
loop-number-preserved c = grind (arith, common_steps, least-push)
