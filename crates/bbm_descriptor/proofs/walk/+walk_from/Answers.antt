-- A value that is read as invalid, as a leaf and as a table.
use Rattle.std.proofs.Common.{◌∷◌, rules}
use Rattle.bbm_descriptor.proofs.WalkSteps.{reads_invalid, reads_leaf, reads_table}
use Rattle.bbm_descriptor.proofs.Forms.{leaf_fits}
use Rattle.bbm_descriptor.proofs.walk.+walk_from.Goals as goal

pub returns-in-Invalid-clause-answer : goal.returns-in-Invalid-clause-answer
returns-in-Invalid-clause-answer g t c = λ root above comes.
    reads_invalid (g.M.Memory.value_at c.args.mem.now) root c.args.kind c.args.addr c.args.level c.args.place c.value.result above
    comes c.value.ensures c.in-Invalid.ensures.value

pub returns-in-Leaf-clause-answer : goal.returns-in-Leaf-clause-answer
returns-in-Leaf-clause-answer g t c = λ root above comes.
    reads_leaf (g.M.Memory.value_at c.args.mem.now) root c.args.kind c.args.addr c.args.level c.args.place c.value.result
    c.in-Leaf.out c.in-Leaf.attrs c.in-Leaf.share c.span.result c.in-Leaf.global c.in-Leaf.contiguous above
    comes c.value.ensures c.in-Leaf.ensures.value c.span.ensures

pub returns-in-Table-clause-answer : goal.returns-in-Table-clause-answer
returns-in-Table-clause-answer g t c = λ root above comes.
    c.walk_from.ensures.answer root (c.args.place ∷ above)
    (reads_table (g.M.Memory.value_at c.args.mem.now) root c.args.kind c.args.addr c.args.level c.args.place c.value.result
    c.in-Table.next c.place_for.result c.unwrap-below.result c.in-Table.ns above comes c.value.ensures
    c.in-Table.ensures.value (search rules) c.place_for.ensures)

pub returns-in-Leaf-clause-fits : goal.returns-in-Leaf-clause-fits
returns-in-Leaf-clause-fits g t c =
    leaf_fits c.args.kind c.args.level c.value.result c.in-Leaf.out c.in-Leaf.attrs c.in-Leaf.share c.span.result c.args.addr
    c.in-Leaf.global c.in-Leaf.contiguous c.in-Leaf.ensures.low c.in-Leaf.ensures.value c.in-Leaf.ensures.fits c.span.ensures
