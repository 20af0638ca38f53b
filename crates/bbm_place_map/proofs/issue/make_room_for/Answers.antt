use Rattle.bbm_place_map.proofs.Common.{sym, ◌∙◌, slice_get_within, HasRoom, Keeps, Entry}
use Rattle.bbm_place_map.proofs.Keeping.{place_changed, place_none, place_of_number}
use Rattle.bbm_place_map.proofs.issue.make_room_for.Goals as goal

pub make_room-requires : goal.make_room-requires
make_room-requires c =
    let e = place_of_number c.requires c.args.item.place c.in-Some.k (sym c.entry_of.ensures ∙ c.in-Some.is) in
    slice_get_within c.args.broken.now.entries c.in-Some.k e.0 e.1

pub returns-in-Some : goal.returns-in-Some
returns-in-Some c = place_changed c.requires c.args.item.place c.in-Some.k (sym c.entry_of.ensures ∙ c.in-Some.is) c.make_room.ensures

pub returns-in-None : goal.returns-in-None
returns-in-None c =
    place_none c.requires c.args.item.place (λ (e f : Entry). Keeps e f × HasRoom f.pends c.args.lane) (sym c.entry_of.ensures ∙ c.in-None.is)
