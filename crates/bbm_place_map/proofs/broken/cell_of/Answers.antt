use Rattle.bbm_place_map.proofs.Common.{◌≡◌, None, ◌+◌, ◌%◌, ◌/◌, ap, cell_by, slot_in, option_map}
use Rattle.bbm_place_map.proofs.Edits.{map_none}
use Rattle.bbm_place_map.proofs.broken.cell_of.Goals as goal

pub returns-in-Some-clause-cell : goal.returns-in-Some-clause-cell
returns-in-Some-clause-cell c = rw (← c.deref.ensures.value, ← c.cell.ensures) c.in-Some.is

pub add_part-requires-clause-none : goal.add_part-requires-clause-none
add_part-requires-clause-none c =
    let at : cell_by c.args.parts.now.items c.args.j ≡ None = rw (← c.deref.ensures.value, ← c.cell.ensures) c.in-None.is in
    map_none (λ start. start + c.args.j % 512) (slot_in c.args.parts.now.items (c.args.j / 512)) at

pub returns-in-None-clause-cell : goal.returns-in-None-clause-cell
returns-in-None-clause-cell c = ap (option_map (λ start. start + c.args.j % 512)) c.add_part.ensures.start
