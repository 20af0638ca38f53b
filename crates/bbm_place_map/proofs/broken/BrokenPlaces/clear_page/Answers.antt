use Rattle.bbm_place_map.proofs.Common.{◌≡◌, ◌/◌, Some, None, refl, in_page, slot_in, entry_of_cell, if◌then◌else◌, vec_len}
use Rattle.bbm_place_map.proofs.Held.{by_cells, sound_seated}
use Rattle.bbm_place_map.proofs.Listing.{listed_cleared}
use Rattle.bbm_place_map.proofs.Positions.{seats_same}
use Rattle.bbm_place_map.proofs.Reaching.{page_none, page_through}
use Rattle.bbm_place_map.proofs.broken.BrokenPlaces.clear_page.Goals as goal

pub clear_page-requires : goal.clear_page-requires
clear_page-requires c =
    let self = c.self.inside in
    let at : slot_in self.parts.items (c.args.base / 512) ≡ Some c.in-Some.start
    = rw (← c.deref.ensures.value, ← c.slot_of.ensures) c.in-Some.is in
    c.self.invariant.0.numbered.within (c.args.base / 512) c.in-Some.start at

pub invariant_of-self : goal.invariant_of-self
invariant_of-self c =
    let e = c.clear_page.ensures in (sound_seated e.sound c.self.invariant.0, listed_cleared e c.self.invariant.1, c.self.invariant.2)

pub returns-in-Some : goal.returns-in-Some
returns-in-Some c =
    let self = c.self.inside in
    let sound = c.self.invariant.0 in
    let new = c.clear_page.new.self in
    let e = c.clear_page.ensures in
    let at : slot_in self.parts.items (c.args.base / 512) ≡ Some c.in-Some.start
    = rw (← c.deref.ensures.value, ← c.slot_of.ensures) c.in-Some.is in
    rw (← c.self.view_is) (record {
      pages = refl;
      lost = refl;
      seats = e.sound.seats;
      entries = λ i. by_cells sound (sound_seated e.sound sound)
          (λ o p. p ≡ (if in_page c.args.base 512 i then None else o)) i
          (page_through self.parts.items (vec_len self.entries.cells) sound.numbered None (entry_of_cell self.entries)
          (entry_of_cell new) c.args.base c.in-Some.start c.requires at e.entries i);
    })

pub returns-in_default : goal.returns-in_default
returns-in_default c =
    let self = c.self.inside in
    let sound = c.self.invariant.0 in
    let at : slot_in self.parts.items (c.args.base / 512) ≡ None
    = rw (← c.deref.ensures.value, ← c.slot_of.ensures) c.in_default.is in
    rw (← c.self.view_is) (record {
      pages = refl;
      lost = refl;
      seats = seats_same self.entries.list.items;
      entries = λ i. by_cells sound sound (λ o p. p ≡ (if in_page c.args.base 512 i then None else o)) i
          (page_none self.parts.items None (entry_of_cell self.entries) c.args.base c.requires at i);
    })
