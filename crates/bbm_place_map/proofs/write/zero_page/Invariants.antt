use Rattle.bbm_place_map.proofs.Common.{◌≡◌, ℕ, vec_len, if◌then◌else◌, value_in, in_page}
use Rattle.bbm_place_map.proofs.write.zero_page.Given as goal

abbrev pub invariant-loop-i : goal.invariant-loop-i
invariant-loop-i l = record {
  len : vec_len l.values ≡ vec_len l.initial.values;
  values : (i : ℕ) → value_in l.values.items i ≡ (if in_page l.base l.i i then 0 else value_in l.initial.values.items i);
}
