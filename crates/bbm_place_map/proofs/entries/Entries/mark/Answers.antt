use Rattle.bbm_place_map.proofs.Common.{◌≡◌, ◌∙◌, ℕ, Some, Vec, Global, ap, sym, arith, refl, inl, slot_in}
use Rattle.bbm_place_map.proofs.Common.{Entry, Option, entry_in, entry_of, pends_of}
use Rattle.bbm_place_map.proofs.Linking.{cell_within}
use Rattle.bbm_place_map.proofs.Positions.{positions_changed, found, entries_changed, still_seated}
use Rattle.bbm_place_map.proofs.entries.Entries.mark.Goals as goal

pub remark-requires : goal.remark-requires
remark-requires c =
    omega (
      arith,
      cell_within c.args.self.now.list.items c.in-Some.k c.args.cell (c.args.self.now.linked.forth c.args.cell c.in-Some.k
          (sym c.number.ensures ∙ c.in-Some.is)),
    )

pub returns-in-Some : goal.returns-in-Some
returns-in-Some c =
    let old = c.args.self.now in
    let new = c.remark.new.self in
    let k = c.in-Some.k in
    let here : slot_in old.cells.items c.args.cell ≡ Some k = sym c.number.ensures ∙ c.in-Some.is in
    let w = found old.list.items k c.args.cell (old.linked.forth c.args.cell k here) in
    let e = c.remark.ensures in
    let f : Entry = record w.0 { marks = c.args.marks } in
    let gets = e.entry w.0 w.1 in
    let still = still_seated old new e.cells
    (positions_changed old.cells.items old.list.items new.list.items w.0 f c.args.cell k old.linked here w.1 refl gets) e.size in
    record {
      room = still.room;
      seats = λ m x h. inl (still.seats m x h);
      entry = (
        f,
        refl,
        λ q. sym (ap (λ (s : Option ℕ). pends_of q (entry_of old.list.items s)) here ∙ ap (pends_of q) w.1),
        λ i. ap (λ (v : Vec ℕ Global). entry_in v.items new.list.items i) e.cells
            ∙ entries_changed old.cells.items old.list.items new.list.items w.0 f c.args.cell k old.linked here w.1 refl gets i,
      );
    }
