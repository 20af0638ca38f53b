use Rattle.bbm_place_map.proofs.Common.{List, Some, ap, arith, length, ℕ, ◌-◌, ◌<◌, ◌≡◌, ◌≤◌, option_map, cell_at}
use Rattle.bbm_place_map.proofs.Common.{entry_in, Entry}
use Rattle.bbm_place_map.proofs.Seats.{entry_there}
use Rattle.bbm_place_map.proofs.Rounds.{no_more, no_visit, past_visited, rounded_more, rounded_none}
use Rattle.bbm_place_map.proofs.Rounds.{visit_then, visited_more}
use Rattle.bbm_place_map.proofs.visit.visit_all.Goals as goal

pub loop-k-init : goal.loop-k-init
loop-k-init c = record {
  visited = no_visit c.args.barrier.now.effect c.args.entries.now c.args.lost.now;
  short = omega arith;
  round = rounded_none c.args.barrier.now.effect c.args.barrier.now (entry_in c.args.entries.now.cells.items c.args.entries.now.list.items) c.args.lost.now.items c.requires.none;
  done = past_visited c.args.barrier.now.effect c.args.barrier.now c.args.entries.now.cells.items c.args.entries.now.list.items c.len-k.result c.args.entries.now.linked (omega arith);
}

-- the cell of the entry that is looked at
at : (entries : List Entry) (k : ℕ) → 0 < k → k ≤ length entries → (j : ℕ) × (cell_at entries (k - 1) ≡ Some j)
at entries k some short =
    let e = entry_there entries (k - 1) (omega arith) in
    (e.0.cell, ap (option_map (λ (x : Entry). x.cell)) e.1)

pub loop-k-preserved : goal.loop-k-preserved
loop-k-preserved c =
    let inv = c.loop-k.invariant in
    let ens = c.visit_at.ensures in
    let by = c.args.barrier.now in
    let k = c.loop-k.k in
    let j = at c.loop-k.entries.list.items k (omega arith) inv.short in
    let start = entry_in c.args.entries.now.cells.items c.args.entries.now.list.items in
    let mid = entry_in c.loop-k.entries.cells.items c.loop-k.entries.list.items in
    let new = entry_in c.visit_at.new.entries.cells.items c.visit_at.new.entries.list.items in
    let others = λ (i : ℕ). ens.others i j.0 j.1 in
    record {
      visited = visit_then inv.visited ens.visited;
      short = omega (arith, ens.short);
      round = rounded_more by.effect by start mid new j.0 c.loop-k.lost.items inv.round (ens.here j.0 j.1) others c.visit_at.new.lost.items (ens.told j.0 j.1);
      done = λ i h.
          visited_more by.effect by start mid new j.0 c.loop-k.lost.items inv.round (ens.here j.0 j.1) others i
          (λ other. inv.done i (no_more c.loop-k.entries.cells.items c.visit_at.new.entries.cells.items c.loop-k.entries.list.items c.visit_at.new.entries.list.items
          k (k - 1) j.0 (omega arith) c.loop-k.entries.linked c.visit_at.new.entries.linked ens.front j.1 i other h));
    }
