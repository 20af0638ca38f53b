use Rattle.bbm_place_map.proofs.Common.{arith, ap, ◌∙◌, refl, List, Entry, Option, Some, if◌then◌else◌, length, nat_eq}
use Rattle.bbm_place_map.proofs.Common.{sym, ℕ, ◌≡◌, entry_in, entry_of, pends_in, pends_of, slice_get, Marks, Pending}
use Rattle.bbm_place_map.proofs.Common.{SmallVec}
use Rattle.bbm_place_map.proofs.Edits.{room_for}
use Rattle.bbm_place_map.proofs.Linking.{linked_more, seats_more, entries_more}
use Rattle.bbm_place_map.proofs.entries.Entries.link.Goals as goal

pub push_reserved-requires : goal.push_reserved-requires
push_reserved-requires c =
    omega (arith, room_for c.args.self.now.cells.items c.args.self.now.list.items c.args.cell c.args.self.now.linked (omega arith) c.requires.free)

pub put_slot-requires-clause-few : goal.put_slot-requires-clause-few
put_slot-requires-clause-few c =
    omega (
      arith,
      c.len-number.ensures,
      c.args.self.now.few,
      room_for c.args.self.now.cells.items c.args.self.now.list.items c.args.cell c.args.self.now.linked (omega arith) c.requires.free,
    )

abbrev made : ℕ → ℕ → ℕ → Marks → SmallVec Pending → Entry
made place index cell marks pends = record { place = place; index = index; cell = cell; marks = marks; pends = pends }

pub invariant_of-self : goal.invariant_of-self
invariant_of-self c =
    let old = c.args.self.now.cells.items in
    let entries = c.args.self.now.list.items in
    let number : c.len-number.result ≡ length entries = omega arith in
    record {
      linked =
          rw c.push_reserved.ensures.items (linked_more old c.put_slot.new.cells.items entries (made c.args.place c.args.index c.args.cell c.args.marks c.new.result) c.args.cell c.len-number.result c.args.self.now.linked
          c.requires.free refl number c.put_slot.ensures.slots c.put_slot.ensures.count);
      few = omega (arith, c.args.self.now.few, c.put_slot.ensures.len);
      room = omega (arith, c.args.self.now.room, c.put_slot.ensures.len, c.push_reserved.ensures.capacity);
    }

pub returns : goal.returns
returns c =
    let old = c.args.self.now.cells.items in
    let new = c.put_slot.new.cells.items in
    let entries = c.args.self.now.list.items in
    let room = c.push_reserved.ensures.items in
    let slots = c.put_slot.ensures.slots in
    let number : c.len-number.result ≡ length entries = omega arith in
    let more : (i : ℕ) → entry_in new c.push_reserved.new.self.items i ≡ (if nat_eq i c.args.cell then Some (made c.args.place c.args.index c.args.cell c.args.marks c.new.result) else entry_in old entries i)
    = λ i. ap (λ (es : List Entry). entry_in new es i) room
    ∙ entries_more old new entries (made c.args.place c.args.index c.args.cell c.args.marks c.new.result) c.args.cell c.len-number.result c.args.self.now.linked c.requires.free refl number slots
    c.put_slot.ensures.count i in
    record {
      room = record { len = c.put_slot.ensures.len; space = c.put_slot.ensures.space; room = c.push_reserved.ensures.capacity };
      seats = λ k e h.
          seats_more old new entries (made c.args.place c.args.index c.args.cell c.args.marks c.new.result) c.args.cell c.len-number.result
          c.args.self.now.linked c.requires.free refl number slots c.put_slot.ensures.count k e (ap (λ (es : List Entry). slice_get es k) (sym room) ∙ h);
      entry = (
        made c.args.place c.args.index c.args.cell c.args.marks c.new.result,
        refl,
        λ q. ap (λ (ps : List Pending). pends_in ps q) c.new.ensures.items ∙ sym (ap (λ (o : Option ℕ). pends_of q (entry_of entries o)) c.requires.free),
        more,
      );
    }
