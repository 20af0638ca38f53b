use Rattle.bbm_place_map.proofs.Common.{◌≡◌, ◌≤◌, ◌+◌, ◌*◌, ℕ, vec_len, vec_capacity, value_in}
use Rattle.bbm_place_map.proofs.write.add_values.Given as goal

abbrev pub invariant-loop-half : goal.invariant-loop-half
invariant-loop-half l = record {
  len : vec_len l.values ≡ vec_len l.initial.values + 256 * l._half;
  room : vec_capacity l.initial.values ≤ vec_capacity l.values;
  values : (j : ℕ) → value_in l.values.items j ≡ value_in l.initial.values.items j;
}
