use Rattle.bbm_place_map.proofs.Common.{ap, sym, ◌∙◌, arith, subst, ◌↔◌, IsTrue, false≢true, Noted, position, pends_in}
use Rattle.bbm_place_map.proofs.Common.{IsQuiet, Entry, refl}
use Rattle.bbm_place_map.proofs.Leaving.{entry_same}
use Rattle.bbm_place_map.proofs.Lists.{set_get}
use Rattle.bbm_place_map.proofs.Positions.{linked_set}
use Rattle.bbm_place_map.proofs.Noting.{quiet_noted}
use Rattle.bbm_entry_state.specs.declared.state.EntryState.TheVariants as state
use Rattle.bbm_place_map.proofs.issue.note_at.Goals as goal

pub returns-clause-entry : goal.returns-clause-entry
returns-clause-entry c = λ e is.
    let entries = c.args.entries.now.list.items in
    let same = entry_same entries c.args.k c.index_mut-entry.result.now e (omega arith) c.index_mut-entry.ensures.value is in
    let f : Entry = record c.index_mut-entry.result.now { pends = c.note_pends.new.pendings } in
    let P : Entry → Type 0 = λ x. Noted (state.Broken x.marks) (pends_in x.pends.items c.args.tlbi.now.issuer) c.args.tlbi.now.reach c.args.tlbi.now.broadcast c.args.cover
    (pends_in c.note_pends.new.pendings.items c.args.tlbi.now.issuer) in
    let Q : Entry → Type 0 = λ x. IsTrue c.note_pends.result ↔ IsQuiet c.args.tlbi.now.broadcast (pends_in x.pends.items c.args.tlbi.now.issuer) in (
      f,
      ap position same,
      (
        (
          ap (λ (x : Entry). x.marks) same,
          λ q other. c.note_pends.ensures.others q other ∙ ap (λ (x : Entry). pends_in x.pends.items q) same,
        ),
        subst P same c.note_pends.ensures.there,
        λ none. quiet_noted e.marks (pends_in e.pends.items c.args.tlbi.now.issuer) (pends_in c.note_pends.new.pendings.items c.args.tlbi.now.issuer)
            c.args.tlbi.now.reach c.args.tlbi.now.broadcast c.args.cover
            (λ quiet. false≢true (sym none ∙ (subst Q same c.note_pends.ensures.quiet).1 quiet)) (subst P same c.note_pends.ensures.there),
      ),
      λ i. set_get entries c.args.k f i (omega arith),
    )

pub invariant_of-entries-clause-linked : goal.invariant_of-entries-clause-linked
invariant_of-entries-clause-linked c =
    linked_set c.args.entries.now.cells.items c.args.entries.now.list.items c.args.k c.index_mut-entry.result.now _ c.args.entries.now.linked (omega arith)
    c.index_mut-entry.ensures.value refl
