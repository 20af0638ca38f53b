use Rattle.bbm_rules.proofs.Common.{arith, common_steps}
use Rattle.bbm_oracle_tags.proofs.watch.takes_tag.Goals as goal

pub returns-in-Ok : goal.returns-in-Ok
returns-in-Ok c = rw c.in-Tlbi.is (grind (arith, common_steps))
