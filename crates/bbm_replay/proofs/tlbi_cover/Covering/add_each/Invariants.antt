use Rattle.bbm_replay.proofs.Common.{restless_place, Grows, IsSettled}
use Rattle.bbm_rules.proofs.Common.{ℕ, ◌<◌}
use Rattle.bbm_replay.proofs.tlbi_cover.Covering.add_each.Given as goal

abbrev pub invariant-loop-i : goal.invariant-loop-i
invariant-loop-i l = record {
  grows : Grows l.map l.self l.fn.found.items l.found.items;
  settled : (j : ℕ) → j < l.i → IsSettled l.map l.self l.found.items (restless_place l.map j);
}
