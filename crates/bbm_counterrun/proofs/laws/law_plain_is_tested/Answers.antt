use Rattle.bbm_counterrun.proofs.PlainTest.{plain_is_tested}
use Rattle.bbm_counterrun.proofs.laws.law_plain_is_tested.Goals as goal

pub returns : goal.returns
returns c = plain_is_tested c.law_run.ensures
