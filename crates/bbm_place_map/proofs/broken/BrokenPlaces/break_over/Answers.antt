use Rattle.bbm_place_map.proofs.Common.{◌≡◌, ℕ, None, Some, nat_eq, refl, ap, sym, ◌∙◌, Core, marks_of}
use Rattle.bbm_place_map.proofs.Common.{arith, List, cell_by, entry_of_cell, vec_len, Entries, IsSound}
use Rattle.bbm_place_map.specs.Parts.{AddsCells}
use Rattle.bbm_place_map.proofs.Held.{broken_entry, broken_marks, broken_pends, broken_seats, entry_at_cell, entry_by, sound_marked}
use Rattle.bbm_place_map.proofs.Listing.{listed_added, listed_fresh}
use Rattle.bbm_place_map.proofs.Positions.{free_cell}
use Rattle.bbm_place_map.proofs.Reaching.{cell_among}
use mathlib.Core.Bool.{or-false}
use Rattle.bbm_place_map.proofs.broken.BrokenPlaces.break_over.Goals as goal

-- the cell of a place that isn't broken has no entry
none : {parts : List ℕ} {old mid : Entries} → IsSound parts mid → AddsCells old mid → (j i : ℕ) → cell_by parts j ≡ Some i
    → entry_by old.list.items j ≡ None → entry_of_cell mid i ≡ None
none sound added j i at whole = sym (entry_at_cell sound j i at) ∙ rw added.list whole

pub link-requires-clause-within : goal.link-requires-clause-within
link-requires-clause-within c =
    let cell = c.cell_of-i.ensures in
    cell_among c.cell_of-i.new.parts.items (vec_len c.cell_of-i.new.entries.cells) cell.sound.numbered c.args.j c.cell_of-i.result cell.cell

pub link-requires-clause-free : goal.link-requires-clause-free
link-requires-clause-free c =
    let cell = c.cell_of-i.ensures in
    let mid = c.cell_of-i.new.entries in
    free_cell mid.cells.items mid.list.items mid.linked c.cell_of-i.result
    (ap marks_of (none cell.sound cell.added c.args.j c.cell_of-i.result cell.cell (rw (← c.self.view_is) at c.requires.whole)))

pub invariant_of-self : goal.invariant_of-self
invariant_of-self c =
    let cell = c.cell_of-i.ensures in
    let mid = c.cell_of-i.new.entries in
    let new = c.link.new.self in
    let e = c.link.ensures in
    let n = c.note_break.ensures in
    let made = c.broken_by-marks.ensures in
    let was = none cell.sound cell.added c.args.j c.cell_of-i.result cell.cell (rw (← c.self.view_is) at c.requires.whole) in (
      sound_marked cell.sound cell.cell e,
      listed_fresh c.self.inside.work c.note_break.new.work mid.cells.items new.cells.items mid.list.items new.list.items
          c.cell_of-i.result c.args.pe c.broken_by-marks.result n.pes (ap marks_of was) made.writers made.clean n.there n.kept n.waiting n.settled
          (broken_marks cell.sound cell.cell e) (broken_pends cell.sound cell.cell e)
          (listed_added cell.added c.self.invariant.1),
      omega (arith, c.self.invariant.2, cell.pages),
    )

pub returns : goal.returns
returns c =
    let cell = c.cell_of-i.ensures in
    let made = c.broken_by-marks.ensures in (
      c.broken_by-marks.result,
      record {
        core = ap (λ (x : Core). Some x) made.core;
        broken = refl;
        writers = λ p. made.writers p ∙ sym (or-false (nat_eq p c.args.pe));
        seen = made.seen;
        half = made.half;
        clean = made.clean;
      },
      rw (← c.self.view_is, ← cell.added.list) (record {
        pages = cell.pages;
        seats = broken_seats cell.sound cell.cell c.link.ensures;
        entry = broken_entry cell.sound cell.cell c.link.ensures;
      }),
    )
