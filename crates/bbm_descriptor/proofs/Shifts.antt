-- Fields of a value by shifts and masks, and the addresses that stand in them.
use Rattle.std.proofs.Common.{◌≡◌, ℕ, ◌+◌, ◌-◌, ◌*◌, ◌/◌, ◌%◌, ◌^◌, ◌<◌, ◌≤◌, pow_pos, mod-lt, mod-eq_of_lt, shl_lt}
use Rattle.std.proofs.Common.{lit<, lt_trans, subst, arith}
use Rattle.std.specs.Prelude.{bit_and}
use Rattle.std.proofs.lemmas.Nat.{and_mask}
use Rattle.std.proofs.lemmas.Nat.Bits.{ones_shr}
use Rattle.std.proofs.Math.Nat.{mul-mod_left}
use Rattle.bbm_descriptor.specs.Fields.{value_bits, address}

-- to shift down and mask takes the bits of a field
pub value_bits-masked : (value high low : ℕ) → low ≤ high → high < 64 → bit_and (value / 2 ^ low) (18446744073709551615 / 2 ^ (63 + low - high)) ≡ value_bits value high low
value_bits-masked value high low order within =
    let mask : 18446744073709551615 / 2 ^ (63 + low - high) ≡ 2 ^ (64 - (63 + low - high)) - 1 = ones_shr 64 (63 + low - high) (omega arith) in
    let width : 64 - (63 + low - high) ≡ high + 1 - low = omega arith in
    rw (mask, width) (and_mask (value / 2 ^ low) (high + 1 - low))

-- an address is below 2 ^ 48
pub address-below : (value low : ℕ) → low < 48 → address value low < 2 ^ 48
address-below value low inside =
    let back : 48 - low + low ≡ 48 = omega arith in
    subst (λ n. address value low < 2 ^ n) back (shl_lt (48 - low) low (mod-lt (value / 2 ^ low) (pow_pos (48 - low))))

-- to shift an address up loses no bit
pub address-shifted : (value low : ℕ) → low < 48 → value_bits value 47 low * 2 ^ low % 18446744073709551616 ≡ address value low
address-shifted value low inside = mod-eq_of_lt (lt_trans (address-below value low inside) (lit< tt))

pub address-aligned : (value low : ℕ) → address value low % 2 ^ low ≡ 0
address-aligned value low = mul-mod_left (value_bits value 47 low) (2 ^ low)

pub ruleset shifts = (value_bits-masked, address-below, address-shifted, address-aligned)
