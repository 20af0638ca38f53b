use Rattle.bbm_oracle_trees.proofs.Emptying.{emptied_first}
use Rattle.bbm_oracle_trees.proofs.log.Log.new.Goals as goal

pub invariant_of-result : goal.invariant_of-result
invariant_of-result g c =
    rw c.new.ensures
    (emptied_first c.args.header.now (g.E.TagEvidence.trust c.args.evidence) c.new-2.result.items c.new-2.ensures.items)
