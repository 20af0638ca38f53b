use Rattle.bbm_place_map.proofs.Common.{◌≡◌, ℕ, None, if◌then◌else◌, in_page, entry_in, StillSound}
use Rattle.bbm_place_map.proofs.entries.Entries.clear_page.Given as goal

abbrev pub invariant-loop-i : goal.invariant-loop-i
invariant-loop-i l = record {
  sound : StillSound l.initial.self l.self;
  entries : (i : ℕ) → entry_in l.self.cells.items l.self.list.items i
      ≡ (if in_page l.start l.i i then None else entry_in l.initial.self.cells.items l.initial.self.list.items i);
}
