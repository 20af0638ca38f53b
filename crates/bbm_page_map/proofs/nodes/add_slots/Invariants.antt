use Rattle.std.proofs.Common.{◌≡◌, ℕ, ◌+◌, vec_len, vec_capacity}
use Rattle.bbm_page_map.specs.SlotNodes.{slot}
use Rattle.bbm_page_map.proofs.nodes.add_slots.Given as goal

abbrev pub invariant-loop-i : goal.invariant-loop-i
invariant-loop-i l = record {
  len : vec_len l.slots ≡ vec_len l.initial.slots + l.i;
  room : vec_capacity l.slots ≡ vec_capacity l.initial.slots;
  slots : (j : ℕ) → slot l.slots.items j ≡ slot l.initial.slots.items j;
}
