use Rattle.bbm_rules.proofs.Common.{rules}
use Rattle.bbm_judge.proofs.Paths.{pages_from_more}
use Rattle.bbm_judge.proofs.starts.pages_from.Goals as goal

pub loop-index-preserved : goal.loop-index-preserved
loop-index-preserved c = rw (pages_from_more, ← c.behind.ensures) (search rules)
