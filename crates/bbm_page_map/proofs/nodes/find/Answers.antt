use Rattle.std.proofs.Common.{◌/◌, length, arith, sym, ◌∙◌, eqb-true}
use Rattle.bbm_page_map.proofs.Finding.{fits_less, further, node_within, none_reached, some_slots}
use Rattle.bbm_page_map.proofs.nodes.find.Goals as goal

pub returns-then-is_empty : goal.returns-then-is_empty
returns-then-is_empty c =
    sym (none_reached c.args.slots.now
    (eqb-true (length c.args.slots.now) 0 (sym c.is_empty.ensures ∙ c.if-is_empty.true)) 4 c.args.number)

pub node_of-requires-clause-some : goal.node_of-requires-clause-some
node_of-requires-clause-some c =
    some_slots (length c.args.slots.now) c.is_empty.result c.is_empty.ensures c.if-is_empty.false

pub node_of-requires-clause-fits : goal.node_of-requires-clause-fits
node_of-requires-clause-fits c = fits_less 4 c.args.number c.requires.fits

pub step-requires : goal.step-requires
step-requires c =
    node_within c.args.slots.now c.requires.tree
    (some_slots (length c.args.slots.now) c.is_empty.result c.is_empty.ensures c.if-is_empty.false)
    4 (c.args.number / 64) c.node_of.result (omega arith) (fits_less 4 c.args.number c.requires.fits)
    (sym c.node_of.ensures)

pub returns : goal.returns
returns c = sym (further c.args.slots.now 4 c.args.number c.node_of.result c.step.result (sym c.node_of.ensures) c.step.ensures)
