-- Values that are asked together.
use Rattle.bbm_tree_index.proofs.Common.{bit_or, leaf_bits, spares}
use Rattle.bbm_rules.proofs.Common.{◌≡◌, ℕ, zero, suc, ◌<◌, ◌≤◌, ◌+◌, Bool, true, arith, nat_tests}
use Rattle.std.proofs.lemmas.Nat.{le_or_l, le_or_r}

pub zero_left : (a b : ℕ) → bit_or a b ≡ 0 → a ≡ 0
zero_left a b e = omega (arith, le_or_l a b, e)

pub zero_right : (a b : ℕ) → bit_or a b ≡ 0 → b ≡ 0
zero_right a b e = omega (arith, le_or_r a b, e)

module _ (value : ℕ → ℕ) (from a b c d : ℕ) (ea : a ≡ value from) (eb : b ≡ value (from + 1))
    (ec : c ≡ value (from + 2)) (ed : d ≡ value (from + 3)) (none : bit_or (bit_or (bit_or a b) c) d ≡ 0) where
  three : bit_or (bit_or a b) c ≡ 0
  three = zero_left (bit_or (bit_or a b) c) d none

  two : bit_or a b ≡ 0
  two = zero_left (bit_or a b) c three

  pub four_zero : (j : ℕ) → from ≤ j → j < from + 4 → value j ≡ 0
  four_zero j low high = grind (arith, zero_left a b two, zero_right a b two, zero_right (bit_or a b) c three, zero_right (bit_or (bit_or a b) c) d none)

-- no leaf has bits [1:0] that are 0
pub bits_some : (level : ℕ) → 1 ≤ leaf_bits level
bits_some zero = omega arith
bits_some (suc zero) = omega arith
bits_some (suc (suc zero)) = omega arith
bits_some (suc (suc (suc level))) = omega arith

pub spare_zero : (lower : Bool) (bits : ℕ) → 1 ≤ bits → spares lower bits 0 ≡ true
spare_zero lower bits some = grind (arith, nat_tests)
