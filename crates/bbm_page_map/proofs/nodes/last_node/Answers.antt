use Rattle.std.proofs.Common.{arith, sym}
use Rattle.bbm_page_map.proofs.Finding.{at_4, fits_four, node_0, node_1, node_2, node_3}
use Rattle.bbm_page_map.proofs.nodes.last_node.Goals as goal

pub overflow_cast-one : goal.overflow_cast-one
overflow_cast-one c = omega (arith, fits_four c.args.prefix c.requires.fits)

pub overflow_add-one : goal.overflow_add-one
overflow_add-one c = omega (arith, fits_four c.args.prefix c.requires.fits)

pub step-node-requires : goal.step-node-requires
step-node-requires c = node_0 c.args.slots.now c.requires.tree c.requires.some c.args.prefix c.requires.fits

pub step-node-requires-2 : goal.step-node-requires-2
step-node-requires-2 c =
    node_1 c.args.slots.now c.requires.tree c.requires.some c.args.prefix c.requires.fits c.step-node.result
    c.step-node.ensures

pub step-node-requires-3 : goal.step-node-requires-3
step-node-requires-3 c =
    node_2 c.args.slots.now c.requires.tree c.requires.some c.args.prefix c.requires.fits c.step-node.result
    c.step-node.ensures c.step-node-2.result c.step-node-2.ensures

pub step-requires : goal.step-requires
step-requires c =
    node_3 c.args.slots.now c.requires.tree c.requires.some c.args.prefix c.requires.fits c.step-node.result
    c.step-node.ensures c.step-node-2.result c.step-node-2.ensures c.step-node-3.result c.step-node-3.ensures

pub returns : goal.returns
returns c =
    sym
    (at_4 c.args.slots.now c.requires.tree c.requires.some c.args.prefix c.requires.fits c.step-node.result
    c.step-node.ensures c.step-node-2.result c.step-node-2.ensures c.step-node-3.result c.step-node-3.ensures
    c.step.result c.step.ensures)
