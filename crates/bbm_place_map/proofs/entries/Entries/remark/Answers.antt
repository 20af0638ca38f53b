use Rattle.bbm_place_map.proofs.Common.{arith, refl}
use Rattle.bbm_place_map.proofs.Positions.{linked_set}
use Rattle.bbm_place_map.proofs.entries.Entries.remark.Goals as goal

pub invariant_of-self-clause-linked : goal.invariant_of-self-clause-linked
invariant_of-self-clause-linked c =
    linked_set c.args.self.now.cells.items c.args.self.now.list.items c.args.k c.index_mut-entry.result.now _ c.args.self.now.linked (omega arith)
    c.index_mut-entry.ensures.value refl
