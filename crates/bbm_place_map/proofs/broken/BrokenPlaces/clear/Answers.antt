use Rattle.bbm_place_map.proofs.Common.{◌≡◌, Some, None, ap, nat_eq, refl, split_at, cell_by, entry_of_cell, if◌then◌else◌, vec_len, ◌∙◌}
use Rattle.bbm_place_map.proofs.Held.{by_cells, entry_by, entry_without_cell, sound_seated}
use Rattle.bbm_place_map.proofs.Listing.{listed_cleared}
use Rattle.bbm_place_map.proofs.Positions.{seats_same}
use Rattle.bbm_place_map.proofs.Reaching.{cell_once, put_through}
use Rattle.bbm_place_map.proofs.broken.BrokenPlaces.clear.Goals as goal

pub invariant_of-self : goal.invariant_of-self
invariant_of-self c =
    let e = c.clear.ensures in (sound_seated e.sound c.self.invariant.0, listed_cleared e c.self.invariant.1, c.self.invariant.2)

pub returns-in-Some : goal.returns-in-Some
returns-in-Some c =
    let self = c.self.inside in
    let sound = c.self.invariant.0 in
    let new = c.clear.new.self in
    let e = c.clear.ensures in
    let at : cell_by self.parts.items c.args.j ≡ Some c.in-Some.i = rw (← c.deref.ensures.value, ← c.cell.ensures) c.in-Some.is in
    rw (← c.self.view_is) (record {
      pages = refl;
      lost = refl;
      seats = e.sound.seats;
      entries = λ i. by_cells sound (sound_seated e.sound sound)
          (λ o p. p ≡ (if nat_eq i c.args.j then None else o)) i
          (put_through (cell_by self.parts.items) None None (entry_of_cell self.entries) (entry_of_cell new) c.args.j c.in-Some.i at
          (λ y h. cell_once self.parts.items (vec_len self.entries.cells) sound.numbered y c.args.j c.in-Some.i h at) e.entries i);
    })

pub returns-in_default : goal.returns-in_default
returns-in_default c =
    let self = c.self.inside in
    let at : cell_by self.parts.items c.args.j ≡ None = rw (← c.deref.ensures.value, ← c.cell.ensures) c.in_default.is in
    let list = self.entries.list.items in
    rw (← c.self.view_is) (record {
      pages = refl;
      lost = refl;
      seats = seats_same list;
      entries = λ i. split_at i c.args.j (λ same. ap (entry_by list) same ∙ entry_without_cell c.self.invariant.0 c.args.j at) (λ _. refl);
    })
