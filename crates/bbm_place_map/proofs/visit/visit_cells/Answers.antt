use Rattle.bbm_place_map.proofs.Common.{◌≡◌, ◌-◌, ℕ, arith, subst, length, slice_index, Does}
use Rattle.bbm_place_map.proofs.Common.{entry_in, ap, ◌≢◌}
use Rattle.bbm_place_map.proofs.Rounds.{all_visited, no_visit, rounded_more, rounded_none}
use Rattle.bbm_place_map.proofs.Rounds.{visit_then, visited_more}
use Rattle.bbm_place_map.proofs.visit.visit_cells.Invariants.{from_end}
use Rattle.bbm_place_map.proofs.visit.visit_cells.Goals as goal

pub loop-i-init : goal.loop-i-init
loop-i-init c = record {
  visited = no_visit c.args.barrier.now.effect c.args.entries.now c.args.lost.now;
  here = λ i below. absurd (omega arith);
  round = rounded_none c.args.barrier.now.effect c.args.barrier.now (entry_in c.args.entries.now.cells.items c.args.entries.now.list.items) c.args.lost.now.items c.requires.none;
}

pub loop-i-preserved : goal.loop-i-preserved
loop-i-preserved c =
    let by = c.args.barrier.now in
    let list = c.args.list.now in
    let m = from_end list c.loop-i.i in
    let ens = c.visit_cell.ensures in
    let inv = c.loop-i.invariant in
    let start = entry_in c.args.entries.now.cells.items c.args.entries.now.list.items in
    let mid = entry_in c.loop-i.entries.cells.items c.loop-i.entries.list.items in
    let new = entry_in c.visit_cell.new.entries.cells.items c.visit_cell.new.entries.list.items in
    record {
      visited = visit_then inv.visited ens.visited;
      here = λ i below.
          visited_more by.effect by start mid new m c.loop-i.lost.items inv.round ens.here ens.others (from_end list i)
          (λ other. inv.here i (let apart : i ≢ c.loop-i.i = λ same. other (ap (from_end list) same) in omega arith));
      round = rounded_more by.effect by start mid new m c.loop-i.lost.items inv.round ens.here ens.others c.visit_cell.new.lost.items ens.told;
    }

pub returns : goal.returns
returns c =
    let list = c.args.list.now in
    let last = length list - 1 in
    let inv = c.loop-i.invariant in
    let was = entry_in c.args.entries.now.cells.items c.args.entries.now.list.items in
    let now = entry_in c.loop-i.entries.cells.items c.loop-i.entries.list.items in
    record {
      visited = inv.visited;
      each =
          all_visited c.args.barrier.now.effect c.args.barrier.now list was now c.requires.known
          (λ i below.
          let P : ℕ → Type 0 = λ k. Does c.args.barrier.now.effect c.args.barrier.now (was (slice_index list k)) (now (slice_index list k)) in
          let back : last - (last - i) ≡ i = omega arith in
          subst P back (inv.here (last - i) (omega arith)))
          inv.round.each;
      lost = inv.round.lost;
      told = inv.round.told;
    }
