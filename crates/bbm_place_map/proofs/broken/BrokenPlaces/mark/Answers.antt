use Rattle.bbm_place_map.proofs.Common.{arith, vec_len}
use Rattle.bbm_place_map.proofs.Held.{broken_entry, broken_marks, broken_pends, broken_seats, sound_marked}
use Rattle.bbm_place_map.proofs.Listing.{listed_added, listed_broken}
use Rattle.bbm_place_map.proofs.Reaching.{cell_among}
use Rattle.bbm_place_map.proofs.broken.BrokenPlaces.mark.Goals as goal

pub mark-requires-clause-within : goal.mark-requires-clause-within
mark-requires-clause-within c =
    let cell = c.cell_of-i.ensures in
    cell_among c.cell_of-i.new.parts.items (vec_len c.cell_of-i.new.entries.cells) cell.sound.numbered c.args.j c.cell_of-i.result cell.cell

pub invariant_of-self : goal.invariant_of-self
invariant_of-self c =
    let cell = c.cell_of-i.ensures in
    let mid = c.cell_of-i.new.entries in
    let new = c.mark.new.self in
    let e = c.mark.ensures in
    let n = c.note_write.ensures in (
      sound_marked cell.sound cell.cell e,
      listed_broken c.self.inside.work c.note_write.new.work mid.cells.items new.cells.items mid.list.items new.list.items
          c.cell_of-i.result c.args.marks c.marks-before.result n.pes c.marks-before.ensures n.told n.kept n.waiting n.settled n.unclean
          (broken_marks cell.sound cell.cell e) (broken_pends cell.sound cell.cell e)
          (listed_added cell.added c.self.invariant.1),
      omega (arith, c.self.invariant.2, cell.pages),
    )

pub returns : goal.returns
returns c =
    let cell = c.cell_of-i.ensures in
    rw (← c.self.view_is, ← cell.added.list) (record {
      pages = cell.pages;
      seats = broken_seats cell.sound cell.cell c.mark.ensures;
      entry = broken_entry cell.sound cell.cell c.mark.ensures;
    })
