use Rattle.bbm_place_map.proofs.Common.{refl, EachAdvances, NotesAmong}
use Rattle.bbm_place_map.proofs.Bases.{is_kept}
use Rattle.bbm_place_map.proofs.Issued.{fits_each, noted_found, only_kept, room_only, room_pends, room_same}
use Rattle.bbm_place_map.proofs.Issued.{unnoted_found}
use Rattle.bbm_place_map.proofs.Keeping.{among_after_room, kept_moved}
use Rattle.bbm_place_map.proofs.Made.{issuing}
use Rattle.bbm_place_map.proofs.Noting.{on_err}
use Rattle.bbm_place_map.proofs.map.PlaceMap.issue_at.Goals as goal

notes : (c : goal.After-self-2-1)
    → EachAdvances (λ _. NotesAmong c.args.found.now (issuing c.args.issuer c.args.reach c.args.broadcast))
    c.args.self.now.broken c.note_found.new.broken
notes c =
    among_after_room c.args.found.now (issuing c.args.issuer c.args.reach c.args.broadcast) c.make_room_found.ensures.each
    c.note_found.ensures

pub invariant_of-self : goal.invariant_of-self
invariant_of-self c = fits_each c.args.self.now c.make_room_found.ensures.each

pub invariant_of-self-2 : goal.invariant_of-self-2
invariant_of-self-2 c =
    fits_each c.args.self.now (among_after_room c.args.found.now (issuing c.args.issuer c.args.reach c.args.broadcast)
    c.make_room_found.ensures.each c.note_found.ensures)

pub returns-clause-only : goal.returns-clause-only
returns-clause-only c =
    only_kept c.args.self.now _ refl (notes c) refl c.args.issuer (λ m x f h. h.0.0) (λ q other m x f h. h.0.1 q other)

pub returns-in_err-make_room_found-clause-only : goal.returns-in_err-make_room_found-clause-only
returns-in_err-make_room_found-clause-only c =
    room_only c.args.self.now _ refl refl c.make_room_found.ensures.each c.args.issuer

pub returns-in_err-make_room_found-clause-kept : goal.returns-in_err-make_room_found-clause-kept
returns-in_err-make_room_found-clause-kept c =
    on_err c.from_residual.result (room_same c.args.self.now _ refl refl c.make_room_found.ensures.each)

pub make_room_found-requires : goal.make_room_found-requires
make_room_found-requires c = is_kept c.args.self.now c.law_once.ensures

pub note_found-requires-clause-sound : goal.note_found-requires-clause-sound
note_found-requires-clause-sound c =
    kept_moved (is_kept c.args.self.now c.law_once.ensures) c.make_room_found.ensures.each

pub returns-clause-noted : goal.returns-clause-noted
returns-clause-noted c = noted_found c.args.self.now _ refl c.args.found.now _ (notes c)

pub returns-clause-unnoted : goal.returns-clause-unnoted
returns-clause-unnoted c = unnoted_found c.args.self.now _ refl c.args.found.now _ (notes c)

pub returns-in_err-make_room_found-clause-unnoted : goal.returns-in_err-make_room_found-clause-unnoted
returns-in_err-make_room_found-clause-unnoted c = λ a _.
    room_pends c.args.self.now _ refl refl c.make_room_found.ensures.each c.args.issuer a
