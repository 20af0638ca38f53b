use Rattle.bbm_place_map.proofs.Common.{sym, subst, Pend, Adds, pend_in}
use Rattle.bbm_place_map.proofs.Pendings.{first_pend, first_there, first_others}
use Rattle.bbm_place_map.proofs.entry.note_here.Goals as goal

pub returns-clause-here : goal.returns-clause-here
returns-clause-here c = λ k first.
    let ps = c.args.pendings.now in
    let P : Pend → Type 0 = λ x. Adds c.args.marks.now c.args.reach c.args.cover x c.note.new.self in
    let Q : Pend → Type 0 = λ x. Adds c.args.marks.now c.args.reach c.args.cover (pend_in ps k) x in
    subst Q (sym (first_there ps c.args.i k _ c.note.new.self first)) (subst P (sym (first_pend ps c.args.i k _ first)) c.note.ensures)

pub returns-clause-others : goal.returns-clause-others
returns-clause-others c = λ k m first other. first_others c.args.pendings.now c.args.i k _ c.note.new.self first m other
