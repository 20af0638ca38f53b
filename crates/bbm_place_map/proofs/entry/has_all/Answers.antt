use Rattle.bbm_place_map.proofs.Common.{Full, Half, Second}
use Rattle.bbm_place_map.proofs.Pendings.{adds_nothing}
use Rattle.bbm_place_map.proofs.entry.has_all.Goals as goal

pub returns-in-Half : goal.returns-in-Half
returns-in-Half c = λ all.
    adds_nothing c.args.marks.now c.args.reach c.and.result c.minus.result c.args.cover Half c.args.pend.now c.in-Half.is c.and.ensures
    c.minus.ensures (c.is_empty.ensures.0 all)

pub returns-in-Second : goal.returns-in-Second
returns-in-Second c = λ all.
    adds_nothing c.args.marks.now c.args.reach c.and-in-Second.result c.minus-in-Second.result c.args.cover Second c.args.pend.now c.in-Second.is c.and-in-Second.ensures
    c.minus-in-Second.ensures (c.is_empty-in-Second.ensures.0 all)

pub returns-in-Full : goal.returns-in-Full
returns-in-Full c = λ all.
    adds_nothing c.args.marks.now c.args.reach c.and-in-Full.result c.minus-in-Full.result c.args.cover Full c.args.pend.now c.in-Full.is c.and-in-Full.ensures
    c.minus-in-Full.ensures (c.is_empty-in-Full.ensures.0 all)
