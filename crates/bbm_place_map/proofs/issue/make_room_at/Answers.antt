use Rattle.bbm_place_map.proofs.Common.{ap, ◌∙◌, arith, position, Entry, refl}
use Rattle.bbm_place_map.proofs.Leaving.{entry_same}
use Rattle.bbm_place_map.proofs.Lists.{set_get}
use Rattle.bbm_place_map.proofs.Positions.{linked_set}
use Rattle.bbm_place_map.proofs.issue.make_room_at.Goals as goal

pub returns-clause-entry : goal.returns-clause-entry
returns-clause-entry c = λ e is.
    let same = entry_same c.args.entries.now.list.items c.args.k c.index_mut-entry.result.now e (omega arith) c.index_mut-entry.ensures.value is in
    let f : Entry = record c.index_mut-entry.result.now { pends = c.make_room_for_lane.new.pendings } in (
      f,
      ap position same,
      (
        (ap (λ (x : Entry). x.marks) same, c.make_room_for_lane.ensures.items ∙ ap (λ (x : Entry). x.pends.items) same),
        c.make_room_for_lane.ensures.room,
      ),
      λ i. set_get c.args.entries.now.list.items c.args.k f i (omega arith),
    )

pub invariant_of-entries-clause-linked : goal.invariant_of-entries-clause-linked
invariant_of-entries-clause-linked c =
    linked_set c.args.entries.now.cells.items c.args.entries.now.list.items c.args.k c.index_mut-entry.result.now _ c.args.entries.now.linked (omega arith)
    c.index_mut-entry.ensures.value refl
