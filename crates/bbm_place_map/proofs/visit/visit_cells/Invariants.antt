use Rattle.bbm_place_map.proofs.Common.{ℕ, ◌<◌, ◌-◌, List, length, slice_index, Does, entry_in}
use Rattle.bbm_place_map.specs.Dsbs.{Visited}
use Rattle.bbm_place_map.proofs.Rounds.{Rounded}
use Rattle.bbm_place_map.proofs.visit.visit_cells.Given as goal

-- one of the cells, from the last on
abbrev pub from_end : List ℕ → ℕ → ℕ
from_end list i = slice_index list (length list - 1 - i)

abbrev pub invariant-loop-i : goal.invariant-loop-i
invariant-loop-i l = record {
  visited : Visited l.barrier.effect l.initial.entries l.entries l.initial.lost l.lost;
  here : (i : ℕ) → i < l.i → Does l.barrier.effect l.barrier (entry_in l.initial.entries.cells.items l.initial.entries.list.items (from_end l.list i))
      (entry_in l.entries.cells.items l.entries.list.items (from_end l.list i));
  round : Rounded l.barrier.effect l.barrier (entry_in l.initial.entries.cells.items l.initial.entries.list.items) (entry_in l.entries.cells.items l.entries.list.items) l.lost.items;
}
