use Rattle.bbm_replay.proofs.Common.{node_in, IsWay, core_at, Path, Grows, IsOnWay, IsSettled}
use Rattle.bbm_rules.proofs.Common.{◌≡◌, ◌≤◌, ◌⊎◌, ℕ, List, Some}
use Rattle.bbm_replay.proofs.Ways.{IsAhead}
use Rattle.bbm_replay.proofs.tlbi_cover.Covering.descend.Given as goal

abbrev pub invariant-loop-depth : goal.invariant-loop-depth
invariant-loop-depth l = record {
  grows : Grows l.map l.self l.fn.found.items l.found.items;
  on_way : (m : ℕ × Path) → l.here ≡ Some m
      → IsOnWay (node_in l.self.index.now) l.input m.0 m.1 × (m.1.level ≤ 3) × (l._depth ≤ m.1.level);
  met : (way : List ℕ) (a : ℕ) → IsWay (node_in l.self.index.now) (core_at l.map) l.input l.addr way a
      → IsSettled l.map l.self l.found.items a ⊎ IsAhead (node_in l.self.index.now) (core_at l.map) l.input l.here a;
}
