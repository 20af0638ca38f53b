use Rattle.bbm_place_map.proofs.Common.{ap, sym, ◌∙◌, same_Some, slice_get_within, Entry, NotesAs}
use Rattle.bbm_place_map.proofs.Keeping.{place_changed, place_none, place_of_number}
use Rattle.bbm_place_map.proofs.issue.note_for.Goals as goal

pub note-requires-clause-within : goal.note-requires-clause-within
note-requires-clause-within c =
    let e = place_of_number c.requires.sound c.args.item.place c.in-Some.k (sym c.entry_of.ensures ∙ c.in-Some.is) in
    slice_get_within c.args.broken.now.entries c.in-Some.k e.0 e.1

pub note-requires-clause-ready : goal.note-requires-clause-ready
note-requires-clause-ready c = λ x is cover.
    let e = place_of_number c.requires.sound c.args.item.place c.in-Some.k (sym c.entry_of.ensures ∙ c.in-Some.is) in
    c.requires.ready c.in-Some.k x is (ap (λ (y : Entry). y.place) (same_Some x e.0 (sym is ∙ e.1)) ∙ e.2)

pub returns-in-Some : goal.returns-in-Some
returns-in-Some c = place_changed c.requires.sound c.args.item.place c.in-Some.k (sym c.entry_of.ensures ∙ c.in-Some.is) c.note.ensures

pub returns-in_default : goal.returns-in_default
returns-in_default c =
    place_none c.requires.sound c.args.item.place (NotesAs c.args.item.cover c.args.tlbi.now) (sym c.entry_of.ensures ∙ c.in_default.is)
