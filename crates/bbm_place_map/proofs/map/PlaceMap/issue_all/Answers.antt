use Rattle.bbm_place_map.proofs.Common.{refl, EachAdvances, NotesAt}
use Rattle.bbm_place_map.proofs.Issued.{fits_each, noted_by_number, only_kept, room_only, room_same}
use Rattle.bbm_place_map.proofs.Keeping.{at_after_room}
use Rattle.bbm_place_map.proofs.Made.{issuing}
use Rattle.bbm_place_map.proofs.Noting.{on_err}
use Rattle.bbm_place_map.proofs.map.PlaceMap.issue_all.Goals as goal

notes : (c : goal.After-self-2-1) → EachAdvances (NotesAt c.args.covers.now (issuing c.args.issuer c.args.reach c.args.broadcast))
    c.args.self.now.broken c.note.new.broken
notes c =
    at_after_room c.args.covers.now (issuing c.args.issuer c.args.reach c.args.broadcast) c.make_room.ensures.each c.note.ensures

pub invariant_of-self : goal.invariant_of-self
invariant_of-self c = fits_each c.args.self.now c.make_room.ensures.each

pub invariant_of-self-2 : goal.invariant_of-self-2
invariant_of-self-2 c =
    fits_each c.args.self.now (at_after_room c.args.covers.now (issuing c.args.issuer c.args.reach c.args.broadcast)
    c.make_room.ensures.each c.note.ensures)

pub returns-clause-only : goal.returns-clause-only
returns-clause-only c = only_kept c.args.self.now _ refl (notes c) refl c.args.issuer (λ m x f h. h.0) (λ q other m x f h. h.1 q other)

pub returns-in_err-make_room-clause-only : goal.returns-in_err-make_room-clause-only
returns-in_err-make_room-clause-only c = room_only c.args.self.now _ refl refl c.make_room.ensures.each c.args.issuer

pub returns-in_err-make_room-clause-kept : goal.returns-in_err-make_room-clause-kept
returns-in_err-make_room-clause-kept c =
    on_err c.from_residual.result (room_same c.args.self.now _ refl refl c.make_room.ensures.each)

pub returns-clause-noted : goal.returns-clause-noted
returns-clause-noted c = noted_by_number c.args.self.now _ refl c.law_once.ensures c.args.covers.now _ (notes c) c.requires
