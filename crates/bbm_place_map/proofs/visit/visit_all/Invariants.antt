use Rattle.bbm_place_map.proofs.Common.{◌≤◌, length, false, ℕ, ◌≡◌, slot_in, Does, entry_in}
use Rattle.bbm_place_map.specs.Dsbs.{Visited}
use Rattle.bbm_place_map.proofs.Rounds.{Rounded, is_below}
use Rattle.bbm_place_map.proofs.visit.visit_all.Given as goal

abbrev pub invariant-loop-k : goal.invariant-loop-k
invariant-loop-k l = record {
  visited : Visited l.barrier.effect l.initial.entries l.entries l.initial.lost l.lost;
  short : l.k ≤ length l.entries.list.items;
  round : Rounded l.barrier.effect l.barrier (entry_in l.initial.entries.cells.items l.initial.entries.list.items) (entry_in l.entries.cells.items l.entries.list.items) l.lost.items;
  done : (j : ℕ) → is_below l.k (slot_in l.entries.cells.items j) ≡ false
      → Does l.barrier.effect l.barrier (entry_in l.initial.entries.cells.items l.initial.entries.list.items j) (entry_in l.entries.cells.items l.entries.list.items j);
}

abbrev pub decreases-loop-k : goal.decreases-loop-k
decreases-loop-k l = l.k
