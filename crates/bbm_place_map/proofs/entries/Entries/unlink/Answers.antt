use Rattle.bbm_place_map.proofs.Common.{ℕ, arith, ap, sym, ◌∙◌, ◌-◌, None, nat_eq, if◌then◌else◌, same_Some, entry_in}
use Rattle.std.proofs.Common.{rules}
use Rattle.bbm_place_map.proofs.Edits.{entries_few}
use Rattle.bbm_place_map.proofs.Leaving.{left, cell_inside, cell_read}
use Rattle.bbm_place_map.proofs.entries.Entries.unlink.Goals as goal

pub put_slot-requires-clause-within : goal.put_slot-requires-clause-within
put_slot-requires-clause-within c =
    omega (arith, cell_inside c.args.self.now.cells.items c.args.self.now.list.items (c.len.result - 1) c.index-2.result.now c.args.self.now.linked (omega arith) c.index-2.ensures)

pub put_slot-requires-clause-few : goal.put_slot-requires-clause-few
put_slot-requires-clause-few c =
    omega (arith, c.args.self.now.few, c.requires, entries_few c.args.self.now.cells.items c.args.self.now.list.items c.args.self.now.linked)

pub put_slot-requires-2-clause-within : goal.put_slot-requires-2-clause-within
put_slot-requires-2-clause-within c =
    omega (arith, cell_inside c.args.self.now.cells.items c.args.self.now.list.items c.args.k c.index.result.now c.args.self.now.linked (omega arith) c.index.ensures)

pub invariant_of-self : goal.invariant_of-self
invariant_of-self c = record {
  linked = (left c.args.self.now.cells.items c.put_slot.new.cells.items c.put_slot-2.new.cells.items c.args.self.now.list.items c.swap_remove.new.self.items
      c.args.k c.len.result c.index.result.now c.index-2.result.now c.swap_remove.result
      c.args.self.now.linked (omega arith) (omega arith) c.index.ensures c.index-2.ensures
      c.put_slot.ensures.slots c.put_slot-2.ensures.slots c.put_slot.ensures.count c.put_slot-2.ensures.count c.swap_remove.ensures.items).linked;
  few = omega (arith, c.args.self.now.few, c.put_slot-2.ensures.len, c.put_slot.ensures.len);
  room = search rules;
}

pub returns : goal.returns
returns c =
    let all = left c.args.self.now.cells.items c.put_slot.new.cells.items c.put_slot-2.new.cells.items c.args.self.now.list.items c.swap_remove.new.self.items
    c.args.k c.len.result c.index.result.now c.index-2.result.now c.swap_remove.result
    c.args.self.now.linked (omega arith) (omega arith) c.index.ensures c.index-2.ensures
    c.put_slot.ensures.slots c.put_slot-2.ensures.slots c.put_slot.ensures.count c.put_slot-2.ensures.count c.swap_remove.ensures.items in
    record {
      sound = record {
        room = record {
          len = c.put_slot-2.ensures.len ∙ c.put_slot.ensures.len;
          space = c.put_slot-2.ensures.space ∙ c.put_slot.ensures.space;
          room = search rules;
        };
        seats = all.seats;
      };
      count = omega arith;
      entries = λ j is i.
          all.kept i
          ∙ ap (λ (n : ℕ). if nat_eq i n then None else entry_in c.args.self.now.cells.items c.args.self.now.list.items i)
          (same_Some c.index.result.now.cell j (sym (cell_read c.args.self.now.list.items c.args.k c.index.result.now (omega arith) c.index.ensures) ∙ is));
      front = all.front;
    }
