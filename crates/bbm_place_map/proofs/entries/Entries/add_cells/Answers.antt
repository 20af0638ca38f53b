use Rattle.bbm_place_map.proofs.Common.{arith}
use Rattle.bbm_place_map.proofs.entries.Entries.add_cells.Goals as goal

pub invariant_of-self : goal.invariant_of-self
invariant_of-self c = record {
  linked = c.add_cells.ensures.kept.linked c.args.self.now.list.items c.args.self.now.linked;
  few = omega (arith, c.requires.few, c.add_cells.ensures.len);
  room = omega (arith, c.requires.room, c.add_cells.ensures.len);
}
