use Rattle.bbm_place_map.proofs.Common.{ap, sym, ◌∙◌, arith, subst, Completed, position, pends_in, no_pends, Entry}
use Rattle.bbm_place_map.proofs.Common.{refl}
use Rattle.bbm_entry_state.specs.Answered.{Answered}
use Rattle.bbm_place_map.proofs.Idle.{nothing_waits}
use Rattle.bbm_place_map.proofs.Leaving.{entry_same}
use Rattle.bbm_place_map.proofs.Lists.{set_get}
use Rattle.bbm_place_map.proofs.Positions.{linked_set}
use Rattle.bbm_entry_state.specs.declared.state.EntryState.TheVariants as state
use Rattle.bbm_place_map.proofs.visit.answer_at.Goals as goal

pub returns-clause-entry : goal.returns-clause-entry
returns-clause-entry c = λ e is.
    let x = c.index_mut-entry.result.now in
    let same = entry_same c.args.entries.now.list.items c.args.k x e (omega arith) c.index_mut-entry.ensures.value is in
    let now = c.answer.new.self in
    let pends = pends_in x.pends.items c.args.barrier.now.issuer in
    let left = pends_in c.take_answered-done.new.pendings.items c.args.barrier.now.issuer in
    let masks : Answered x.marks pends c.args.barrier.now.dsb c.take_answered-done.result now = record {
      answers = c.take_answered-done.ensures.done;
      core = c.answer.ensures.core;
      writers = c.answer.ensures.writers;
      seen = c.answer.ensures.seen;
      half = c.answer.ensures.half;
      clean = c.answer.ensures.clean;
    } in
    let f : Entry = record x { marks = now; pends = c.take_answered-done.new.pendings } in
    let P : Entry → Type 0 = λ y. Completed (state.Broken y.marks) (pends_in y.pends.items c.args.barrier.now.issuer) c.args.barrier.now.dsb c.args.barrier.now.n state.Clean no_pends in
    let Q : Entry → Type 0 = λ y. Completed (state.Broken y.marks) (pends_in y.pends.items c.args.barrier.now.issuer) c.args.barrier.now.dsb c.args.barrier.now.n (state.Broken now) left in (
      f,
      ap position same,
      (
        λ all. subst P same
            (c.law_completes.ensures.clean x.marks now pends no_pends c.args.barrier.now.dsb c.take_answered-done.result c.args.barrier.now.n masks (sym c.is_clean.ensures ∙ all) nothing_waits),
        λ some. subst Q same
            (c.law_completes.ensures.broken x.marks now pends left c.args.barrier.now.dsb c.take_answered-done.result c.args.barrier.now.n masks (sym c.is_clean.ensures ∙ some) c.take_answered-done.ensures.left),
        λ q other. c.take_answered-done.ensures.others q other ∙ ap (λ (y : Entry). pends_in y.pends.items q) same,
      ),
      λ i. set_get c.args.entries.now.list.items c.args.k f i (omega arith),
    )

pub invariant_of-entries-clause-linked : goal.invariant_of-entries-clause-linked
invariant_of-entries-clause-linked c =
    linked_set c.args.entries.now.cells.items c.args.entries.now.list.items c.args.k c.index_mut-entry.result.now _ c.args.entries.now.linked (omega arith)
    c.index_mut-entry.ensures.value refl
