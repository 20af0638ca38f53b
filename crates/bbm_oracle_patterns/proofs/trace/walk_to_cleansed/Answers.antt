use Rattle.bbm_rules.proofs.Common.{◌+◌, arith}
use Rattle.bbm_oracle_patterns.proofs.Stops.{stopped, walk_more, walk_none, walked_whole}
use Rattle.bbm_oracle_patterns.proofs.trace.walk_to_cleansed.Goals as goal

pub loop-kept-init : goal.loop-kept-init
loop-kept-init c = λ before. walk_none c.args.header.now c.args.place c.args.covering c.new-walk.result
    (c.new-walk.ensures c.args.header.now c.args.place)

pub loop-kept-preserved : goal.loop-kept-preserved
loop-kept-preserved c = λ before.
    walk_more c.args.header.now c.args.place c.args.covering c.loop-kept.walk c.take.new.self before c.args.later.now
    c.loop-kept.kept-index c.kept-item.result
    (omega arith) c.kept-item.is c.take.ensures (c.loop-kept.invariant before)

pub returns-then-has_every_pe : goal.returns-then-has_every_pe
returns-then-has_every_pe c = λ before.
    stopped c.args.header.now c.args.place c.args.covering c.take.new.self before c.args.later.now
    (c.loop-kept.kept-index + 1) c.has_every_pe.result
    (walk_more c.args.header.now c.args.place c.args.covering c.loop-kept.walk c.take.new.self before c.args.later.now
    c.loop-kept.kept-index c.kept-item.result
    (omega arith) c.kept-item.is c.take.ensures (c.loop-kept.invariant before))
    c.has_every_pe.ensures c.if-has_every_pe.true

pub returns : goal.returns
returns c = λ before.
    walked_whole c.args.header.now c.args.place c.args.covering c.loop-kept.walk before c.args.later.now c.loop-kept.kept-index
    c.has_every_pe-2.result (omega arith)
    (c.loop-kept.invariant before) c.has_every_pe-2.ensures
