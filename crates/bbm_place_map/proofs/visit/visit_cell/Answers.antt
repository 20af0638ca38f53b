use Rattle.bbm_place_map.proofs.Common.{◌≡◌, None, Some, arith, ap, refl, sym, ◌∙◌, cell_at, entry_of, entry_in}
use Rattle.bbm_place_map.proofs.Doing.{does_at, does_none}
use Rattle.bbm_place_map.proofs.Linking.{cell_within}
use Rattle.bbm_place_map.proofs.Resting.{stays_kept}
use Rattle.bbm_place_map.specs.Each.{with_page}
use Rattle.bbm_place_map.proofs.Rounds.{no_visit}
use Rattle.bbm_place_map.proofs.visit.visit_cell.Goals as goal

pub visit_at-requires-clause-within : goal.visit_at-requires-clause-within
visit_at-requires-clause-within c =
    omega (
      arith,
      cell_within c.args.entries.now.list.items c.in-Some.k c.args.cell
          (c.args.entries.now.linked.forth c.args.cell c.in-Some.k
          (sym c.number.ensures ∙ c.in-Some.is)),
    )

pub returns-in-Some : goal.returns-in-Some
returns-in-Some c =
    let e = c.visit_at.ensures in
    let at : cell_at c.args.entries.now.list.items c.in-Some.k ≡ Some c.args.cell
    = c.args.entries.now.linked.forth c.args.cell c.in-Some.k
    (sym c.number.ensures ∙ c.in-Some.is) in
    record {
      visited = e.visited;
      here = e.here c.args.cell at;
      told = e.told c.args.cell at;
      others = λ i. e.others i c.args.cell at;
    }

pub returns-in-None : goal.returns-in-None
returns-in-None c =
    let by = c.args.barrier.now in
    let here = entry_in c.args.entries.now.cells.items c.args.entries.now.list.items c.args.cell in
    let none : here ≡ None
    = ap (entry_of c.args.entries.now.list.items)
    (sym c.number.ensures ∙ c.in-None.is) in
    record {
      visited = no_visit by.effect c.args.entries.now c.args.lost.now;
      here = does_at by.effect by here None here None none none (does_none by.effect by);
      told = ap (with_page c.args.lost.now.items) (sym (stays_kept here));
      others = λ i other. refl;
    }
