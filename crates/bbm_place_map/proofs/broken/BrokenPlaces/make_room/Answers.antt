use Rattle.bbm_place_map.proofs.Common.{refl}
use Rattle.bbm_place_map.proofs.Held.{sound_changed}
use Rattle.bbm_place_map.proofs.Listing.{listed_made}
use Rattle.bbm_place_map.proofs.Seats.{entry_there}
use Rattle.bbm_place_map.proofs.broken.BrokenPlaces.make_room.Goals as goal

pub invariant_of-self : goal.invariant_of-self
invariant_of-self c =
    let self = c.self.inside in
    let new = c.make_room_at.new.entries in
    let e = entry_there self.entries.list.items c.args.k (rw (← c.self.view_is) at c.requires) in
    let r = c.make_room_at.ensures in
    let f = r.entry e.0 e.1 in (
      sound_changed self.entries new c.args.k e.0 f.0 e.1 f.1 f.3 r.cells r.size c.self.invariant.0,
      listed_made self.entries new c.args.k e.0 f.0 e.1 f.1 f.3 r.cells f.2.0 self.work c.self.invariant.1,
      c.self.invariant.2,
    )

pub returns : goal.returns
returns c =
    let r = c.make_room_at.ensures in
    rw (← c.self.view_is) (record {
      same = record { pages = refl; len = r.size.len };
      entry = r.entry;
    })
