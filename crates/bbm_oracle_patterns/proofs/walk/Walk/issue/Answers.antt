use Rattle.bbm_oracle_patterns.proofs.Walks.{walk_tlbi}
use Rattle.bbm_oracle_patterns.proofs.walk.Walk.issue.Goals as goal

pub returns : goal.returns
returns c = λ place xt position covers tops covered since x.
    walk_tlbi c.args.self.now c.args.header.now place since x covers tops position c.args.pe c.args.op xt c.args.cover
    c.is_broadcast-broadcast.result
    c.issue.new.self c.issue-2.new.self c.issue-3.new.self
    c.reached-seen.result c.reached-half.result c.if_same.result c.if_same-2.result c.if_same-3.result
    c.is_broadcast-broadcast.ensures covered c.reached-seen.ensures c.reached-half.ensures
    c.if_same.ensures c.if_same-2.ensures c.if_same-3.ensures
    c.issue.ensures c.issue-2.ensures c.issue-3.ensures
