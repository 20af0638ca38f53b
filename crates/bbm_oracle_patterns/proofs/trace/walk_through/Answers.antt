use Rattle.bbm_rules.proofs.Common.{arith}
use Rattle.bbm_oracle_patterns.proofs.Stops.{walk_more, walk_none}
use Rattle.bbm_oracle_patterns.proofs.trace.walk_through.Goals as goal

pub loop-kept-init : goal.loop-kept-init
loop-kept-init c = λ before. walk_none c.args.header.now c.args.place c.args.covering c.new-walk.result
    (c.new-walk.ensures c.args.header.now c.args.place)

pub loop-kept-preserved : goal.loop-kept-preserved
loop-kept-preserved c = λ before.
    walk_more c.args.header.now c.args.place c.args.covering c.loop-kept.walk c.take.new.self before c.args.later.now
    c.loop-kept.kept-index c.kept-item.result
    (omega arith) c.kept-item.is c.take.ensures (c.loop-kept.invariant before)
