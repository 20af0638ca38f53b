use Rattle.bbm_place_map.proofs.Common.{arith, sym, ◌∙◌, NotesAt}
use Rattle.bbm_place_map.proofs.Issued.{cover_read}
use Rattle.bbm_place_map.proofs.Keeping.{below_all, below_more, below_none, below_rest}
use Rattle.bbm_place_map.proofs.Noting.{notes_at}
use Rattle.bbm_place_map.proofs.issue.note.Goals as goal

pub note-requires-clause-within : goal.note-requires-clause-within
note-requires-clause-within c = omega (arith, c.loop-k.invariant.same.len)

pub note-requires-clause-ready : goal.note-requires-clause-ready
note-requires-clause-ready c = λ e is cover.
    c.requires.ready c.loop-k.k e
    (sym (below_rest c.loop-k.invariant c.loop-k.k (omega arith)) ∙ is) c.get-cover.result
    (cover_read c.args.covers.now c.loop-k.k c.index-covers-k.result c.get-cover.result (omega arith) c.index-covers-k.is c.get-cover.ensures) cover

pub loop-k-init : goal.loop-k-init
loop-k-init c = below_none (NotesAt c.args.covers.now c.args.tlbi.now) c.args.broken.now

pub loop-k-preserved : goal.loop-k-preserved
loop-k-preserved c =
    below_more c.loop-k.invariant (omega arith) c.note.ensures
    (λ e f. notes_at c.args.covers.now c.loop-k.k c.get-cover.result c.args.tlbi.now e f
    (cover_read c.args.covers.now c.loop-k.k c.index-covers-k.result c.get-cover.result (omega arith) c.index-covers-k.is c.get-cover.ensures))

pub returns : goal.returns
returns c = below_all c.loop-k.invariant (omega arith)
