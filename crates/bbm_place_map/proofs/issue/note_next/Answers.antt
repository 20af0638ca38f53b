use Rattle.bbm_place_map.proofs.Common.{[], ◌∷◌, ◌++◌, ap, sym, ◌∙◌, List, subst, take, EachAdvances, is_found}
use Rattle.bbm_place_map.proofs.Common.{slice_get, NotesFound, Found}
use Rattle.bbm_place_map.proofs.Advancing.{advance_by}
use Rattle.bbm_place_map.proofs.Finding.{found_at, take_more}
use Rattle.bbm_place_map.proofs.Keeping.{each_then}
use Rattle.bbm_place_map.proofs.Visiting.{note_step, skip_step}
use Rattle.bbm_place_map.proofs.issue.note_next.Goals as goal

pub note_for-requires-clause-ready : goal.note_for-requires-clause-ready
note_for-requires-clause-ready c = λ m e is same.
    c.requires.ready m e is
    (ap (is_found c.args.found.now) same ∙ found_at c.args.found.now c.args.i c.index-found-i.result c.requires.within c.index-found-i.is)
    (ap (is_found (take c.args.i c.args.found.now)) same ∙ sym c.is_among.ensures ∙ c.if-not-is_among.true)

pub returns-then-not-is_among : goal.returns-then-not-is_among
returns-then-not-is_among c = λ start before.
    let xs = take c.args.i c.args.found.now in
    let x = c.index-found-i.result in
    let by = c.args.tlbi.now in
    let P : List Found → Type 0 = λ ys. EachAdvances (λ _. NotesFound ys by) start c.note_for.new.broken in
    subst P (sym (take_more c.args.found.now c.args.i x c.requires.within c.index-found-i.is))
    (each_then (λ _. NotesFound (xs ++ x ∷ []) by) before c.note_for.ensures (λ _. note_step xs x by (sym c.is_among.ensures ∙ c.if-not-is_among.true)))

pub returns-else-not-is_among : goal.returns-else-not-is_among
returns-else-not-is_among c = λ start before.
    let xs = take c.args.i c.args.found.now in
    let x = c.index-found-i.result in
    let by = c.args.tlbi.now in
    let P : List Found → Type 0 = λ ys. EachAdvances (λ _. NotesFound ys by) start c.args.broken.now in
    subst P (sym (take_more c.args.found.now c.args.i x c.requires.within c.index-found-i.is)) (record {
      same = before.same;
      each = λ m.
          advance_by (NotesFound xs by) (NotesFound (xs ++ x ∷ []) by) (skip_step xs x by (sym c.is_among.ensures ∙ c.if-not-is_among.false))
          (slice_get start.entries m) (slice_get c.args.broken.now.entries m) (before.each m);
    })
