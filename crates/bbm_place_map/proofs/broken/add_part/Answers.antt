use Rattle.bbm_place_map.proofs.Common.{◌≡◌, ℕ, Option, Vec, Global, ap, sym, subst, arith, is_some, length}
use Rattle.bbm_place_map.proofs.Common.{cell_by, slot_in, vec_capacity, ◌*◌, ◌≤◌, Some, slice_get, Entry}
use Rattle.bbm_place_map.proofs.Edits.{one_if}
use Rattle.bbm_place_map.proofs.Held.{cells_fewer, part_numbered, part_seated}
use Rattle.bbm_place_map.proofs.broken.add_part.Goals as goal

pub add_cells-requires-clause-space : goal.add_cells-requires-clause-space
add_cells-requires-clause-space c =
    let s = c.requires.sound in
    omega (arith, s.space, cells_fewer s c.args.page (omega arith) c.requires.none)

pub add_cells-requires-clause-room : goal.add_cells-requires-clause-room
add_cells-requires-clause-room c =
    let s = c.requires.sound in
    omega (arith, s.room, cells_fewer s c.args.page (omega arith) c.requires.none)

pub add_cells-requires-clause-few : goal.add_cells-requires-clause-few
add_cells-requires-clause-few c =
    let s = c.requires.sound in
    omega (arith, s.few, cells_fewer s c.args.page (omega arith) c.requires.none)

pub put_slot-requires-clause-few : goal.put_slot-requires-clause-few
put_slot-requires-clause-few c =
    let s = c.requires.sound in
    omega (arith, s.few, c.len-start.ensures, cells_fewer s c.args.page (omega arith) c.requires.none)

pub returns-clause-few : goal.returns-clause-few
returns-clause-few c =
    let s = c.requires.sound in
    omega (arith, s.few, c.len-start.ensures, cells_fewer s c.args.page (omega arith) c.requires.none)

pub returns-clause-sound : goal.returns-clause-sound
returns-clause-sound c =
    let s = c.requires.sound in
    let p = c.put_slot.ensures in
    let e = c.add_cells.ensures in
    let start = c.len-start in
    let parts = c.put_slot.new.cells.items in
    let none : one_if (is_some (slot_in c.args.parts.now.items c.args.page)) ≡ 0
    = ap (λ (o : Option ℕ). one_if (is_some o)) c.requires.none in
    let S : Vec Entry Global → Type 0 = λ v. (k : ℕ) (x : Entry) → slice_get v.items k ≡ Some x
    → cell_by parts x.index ≡ Some x.cell in
    let R : Vec Entry Global → Type 0 = λ v. 512 * length parts ≤ vec_capacity v in
    record {
      numbered = part_numbered parts s c.args.page start.result start.ensures c.requires.none p.slots _
          (omega (arith, e.len, start.ensures));
      some = omega (arith, s.some, none, p.count, e.len);
      seated = subst S (sym e.list) (part_seated parts s c.args.page start.result start.ensures c.requires.none p.slots);
      space = omega (arith, s.space, e.space, p.len);
      room = subst R (sym e.list) (omega (arith, s.room, p.len));
      few = omega (arith, s.few, p.len);
    }
