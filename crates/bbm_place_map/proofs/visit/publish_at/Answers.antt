use Rattle.bbm_place_map.proofs.Common.{◌≡◌, ◌&&◌, ◌||◌, Bool, true, Some, ap, sym, ◌∙◌, arith, refl, subst, false≢true}
use Rattle.bbm_place_map.proofs.Common.{with_true, publishes, Core, Publishes, position, Entry, Broken, pe_in}
use Rattle.bbm_place_map.proofs.Leaving.{entry_same}
use Rattle.bbm_place_map.proofs.Lists.{set_get}
use Rattle.bbm_place_map.proofs.Positions.{linked_set}
use Rattle.bbm_place_map.proofs.Telling.{still_published}
use Rattle.bbm_place_map.proofs.visit.publish_at.Goals as goal

pub returns-then-has-clause-entry : goal.returns-then-has-clause-entry
returns-then-has-clause-entry c = λ e is.
    let x = c.index_mut-entry.result.now in
    let by = c.args.barrier.now in
    let same = entry_same c.args.entries.now.list.items c.args.k x e (omega arith) c.index_mut-entry.ensures.value is in
    let made = c.published_to-entry.ensures in
    let f : Entry = record x { marks = c.published_to-entry.result } in
    let wrote : pe_in x.marks.writers by.issuer ≡ true = sym c.has.ensures ∙ c.if-has.true in
    let P : Entry → Type 0 = λ y. Publishes by y f in (
      f,
      ap position same,
      subst P same (
        refl,
        record {
          core = ap (λ (y : Core). Some y) made.core;
          broken = refl;
          writers = made.writers;
          seen = λ p.
              made.seen p
              ∙ ap (λ (b : Bool). b || pe_in x.marks.seen p)
              (c.requires.heard p ∙ with_true (publishes by.dsb by.issuer by.n p)
              ∙ ap (λ (b : Bool). publishes by.dsb by.issuer by.n p && b) (sym wrote));
          half = made.half;
          clean = made.clean;
        },
      ),
      λ i. set_get c.args.entries.now.list.items c.args.k f i (omega arith),
    )

pub returns-else-has-clause-entry : goal.returns-else-has-clause-entry
returns-else-has-clause-entry c = λ e is.
    let x = c.index_mut-entry.result.now in
    let same = entry_same c.args.entries.now.list.items c.args.k x e (omega arith) c.index_mut-entry.ensures.value is in
    let none = sym c.has.ensures ∙ c.if-has.false in
    let P : Entry → Type 0 = λ y. Publishes c.args.barrier.now y x in (
      x,
      ap position same,
      subst P same (refl, still_published c.args.barrier.now (Broken x.marks) (λ p reached wrote. absurd (false≢true (sym none ∙ wrote)))),
      λ i. set_get c.args.entries.now.list.items c.args.k x i (omega arith),
    )

pub invariant_of-entries-clause-linked : goal.invariant_of-entries-clause-linked
invariant_of-entries-clause-linked c =
    linked_set c.args.entries.now.cells.items c.args.entries.now.list.items c.args.k c.index_mut-entry.result.now _ c.args.entries.now.linked (omega arith)
    c.index_mut-entry.ensures.value refl
