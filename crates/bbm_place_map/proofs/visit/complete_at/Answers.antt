use Rattle.bbm_place_map.proofs.Common.{◌≡◌, ◌∙◌, ℕ, Some, ap, arith, Complete, Pends, cell_at, entry_in, if◌then◌else◌}
use Rattle.bbm_place_map.proofs.Common.{nat_eq, None, option_map, List, Option, length, next_of, subst, sym, ◌+◌, ◌≤◌}
use Rattle.bbm_place_map.specs.Each.{with_page}
use Rattle.std.proofs.Common.{length-append}
use Rattle.bbm_place_map.proofs.Common.{put_away, Vec, Global, waits}
use Rattle.bbm_place_map.proofs.Positions.{positions_changed, still_more, still_seated}
use Rattle.bbm_place_map.proofs.Answering.{here_gone}
use Rattle.bbm_place_map.proofs.Leaving.{entry_read}
use Rattle.bbm_place_map.proofs.Rounds.{visit_stays}
use Rattle.bbm_place_map.proofs.Seats.{the_cell}
use Rattle.bbm_place_map.proofs.visit.complete_at.Goals as goal

with_len : (pages : List ℕ) (o : Option ℕ) → length (with_page pages o) ≤ length pages + 1
with_len pages None = omega arith
with_len pages (Some p) = simp length-append (omega arith)

pub unlink-requires : goal.unlink-requires
unlink-requires c = omega (arith, c.answer_at.ensures.size.len)

pub returns-then-answer_at : goal.returns-then-answer_at
returns-then-answer_at c =
    let x = c.index.result.now in
    let by = c.args.barrier.now in
    let old = c.args.entries.now in
    let mid = c.answer_at.new.entries in
    let new = c.unlink.new.self in
    let was = entry_read old.list.items c.args.k x (omega arith) c.index.ensures in
    let e = c.answer_at.ensures in
    let f = e.entry x was in
    let at = old.linked.back x.cell c.args.k (ap (option_map the_cell) was) in
    let middle = still_seated old mid e.cells
    (positions_changed old.cells.items old.list.items mid.list.items x f.0 x.cell c.args.k old.linked at was f.1 f.3) e.size in
    let gone = λ (j : ℕ) (there : cell_at old.list.items c.args.k ≡ Some j).
    here_gone by old.cells.items old.list.items mid.list.items c.args.k x f.0 old.linked was f.1 f.3 j there new.cells.items new.list.items
    (λ j there i. c.unlink.ensures.entries j there i
    ∙ ap (λ (v : Vec ℕ Global). if nat_eq i j then None else entry_in v.items mid.list.items i) e.cells) (f.2.0 c.if-answer_at.true) in
    let pages = c.args.lost.now.items in
    let more : length c.tell_lost.new.lost.items ≤ length pages + 1
    = subst (λ (xs : List ℕ). length xs ≤ length pages + 1) (sym c.tell_lost.ensures.told) (with_len pages (next_of x.marks.core)) in
    record {
      visited = record {
        sound = still_more middle c.unlink.ensures.sound;
        seats = tt;
        space = c.tell_lost.ensures.space;
        room = omega (arith, e.size.len, c.unlink.ensures.count, more);
      };
      short = omega (arith, e.size.len);
      here = λ j there. (gone j there).0;
      told = λ j there. c.tell_lost.ensures.told ∙ ap (with_page c.args.lost.now.items) (gone j there).1;
      others = λ i j there. (gone j there).2 i;
      front = λ m below. c.unlink.ensures.front m below ∙ put_away _ _ f.3 m (λ same. absurd (omega arith));
    }

pub returns-else-answer_at : goal.returns-else-answer_at
returns-else-answer_at c =
    let x = c.index.result.now in
    let was = entry_read c.args.entries.now.list.items c.args.k x (omega arith) c.index.ensures in
    let e = c.answer_at.ensures in
    let f = e.entry x was in
    visit_stays Complete c.args.barrier.now c.args.entries.now c.answer_at.new.entries c.args.lost.now c.args.k x f.0 e.cells was f.1 f.3 e.size
    (record { own = f.2.1 c.if-answer_at.false; others = λ q other b cover p. ap (λ (y : Pends). waits y b cover p) (f.2.2 q other) })
