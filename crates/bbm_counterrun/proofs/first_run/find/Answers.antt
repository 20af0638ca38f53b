use Rattle.bbm_counterrun.proofs.FindRun.{no_leaf_at_last}
use Rattle.bbm_counterrun.proofs.first_run.find.Goals as goal

pub returns-in-None-clause-finds : goal.returns-in-None-clause-finds
returns-in-None-clause-finds c h pe place value same refused leaf =
    no_leaf_at_last _ h pe place value c.args.log.now.items same leaf (rw c.in-None.is at c.in_ok-found.ensures.leaf)
