use Rattle.bbm_place_map.proofs.Common.{refl}
use Rattle.bbm_place_map.proofs.Held.{sound_changed}
use Rattle.bbm_place_map.proofs.Listing.{listed_after}
use Rattle.bbm_place_map.proofs.Seats.{entry_there}
use Rattle.bbm_place_map.proofs.broken.BrokenPlaces.note.Goals as goal

pub invariant_of-self : goal.invariant_of-self
invariant_of-self c =
    let self = c.self.inside in
    let new = c.note_entry.new.entries in
    let e = entry_there self.entries.list.items c.args.k (rw (← c.self.view_is) at c.requires.within) in
    let r = c.note_entry.ensures in
    let f = r.entry e.0 e.1 in (
      sound_changed self.entries new c.args.k e.0 f.0 e.1 f.1 f.3 r.rest.cells r.rest.size c.self.invariant.0,
      listed_after self.entries new c.args.k e.0 f.0 e.1 f.1 f.3 r.rest.cells c.args.tlbi.now self.work
          c.note_entry.new.lists r.rest (f.2.0.0, f.2.0.1) f.2.1 c.self.invariant.1,
      c.self.invariant.2,
    )

pub returns : goal.returns
returns c =
    let r = c.note_entry.ensures in
    rw (← c.self.view_is) (record {
      same = record { pages = refl; len = r.rest.size.len };
      entry = λ e is. let f = r.entry e is in (f.0, f.1, f.2.0, f.3);
    })
