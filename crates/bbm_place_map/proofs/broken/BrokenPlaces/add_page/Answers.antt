use Rattle.std.proofs.Common.{rules}
use Rattle.bbm_place_map.proofs.Common.{◌≡◌, ◌+◌, ◌/◌, ◌%◌, ℕ, Option, ap, sym, subst, ◌∙◌, arith, inr, refl, true}
use Rattle.bbm_place_map.proofs.Common.{Numbered, fun_ext, option_map, vec_len}
use Rattle.bbm_place_map.proofs.Listing.{listed_fewer}
use Rattle.bbm_place_map.specs.Parts.{has_room_for_page}
use Rattle.bbm_place_map.proofs.broken.BrokenPlaces.add_page.Goals as goal

pub invariant_of-self : goal.invariant_of-self
invariant_of-self c =
    let self = c.self.inside in
    let s = c.self.invariant.0 in
    let e = c.add_cells.ensures in
    let room : has_room_for_page self.parts self.entries self.lost ≡ true = rw (← c.self.view_is) at c.requires in
    let N : (ℕ → Option ℕ) → Type 0 = λ f. Numbered f (vec_len self.entries.cells) in (
      record {
        numbered = subst N (sym (fun_ext e.kept.slots)) s.numbered;
        some = omega (arith, s.some, e.count);
        seated = λ k x is. ap (option_map (λ start. start + x.index % 512)) (e.kept.slots (x.index / 512)) ∙ s.seated k x is;
        space = search (rules, room, e.len);
        room = search (rules, room, e.len);
        few = search (rules, room, e.len);
      },
      listed_fewer self.work c.make_lists.new.lists c.make_lists-2.new.lists self.entries.cells.items self.entries.cells.items
          self.entries.list.items self.entries.list.items c.make_lists.ensures c.make_lists-2.ensures (λ j. inr refl) c.self.invariant.1,
      search (rules, room, e.len),
    )
