use Rattle.bbm_place_map.proofs.Common.{◌≡◌, ℕ, ◌<◌, ◌+◌, None, slot_in}
use Rattle.bbm_place_map.proofs.entries.Entries.are_free.Given as goal

abbrev pub invariant-loop-i : goal.invariant-loop-i
invariant-loop-i l = (j : ℕ) → j < l.i → slot_in l.self.cells.items (l.start + j) ≡ None
