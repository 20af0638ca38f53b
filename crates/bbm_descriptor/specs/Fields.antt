-- The fields of a 64-bit translation table descriptor, each with its bits named in one place.
-- Source: Arm ARM (DDI 0487), "VMSAv8-64 descriptor formats", the 4 KiB granule with 48-bit
-- addresses. Bits that aren't named here are read by nothing.
use Rattle.std.specs.Prelude.{ℕ, Bool, ◌+◌, ◌-◌, ◌*◌, ◌/◌, ◌%◌, ◌^◌, ◌==◌, zero, suc}

-- bits [high:low] of a value, as a number
abbrev pub value_bits : ℕ → ℕ → ℕ → ℕ
value_bits value high low = value / 2 ^ low % 2 ^ (high + 1 - low)

-- whether this bit of a value is 1
abbrev pub value_bit : ℕ → ℕ → Bool
value_bit value k = value_bits value k k == 1

-- the address that stands in bits [47:low] of a value, in bytes
abbrev pub address : ℕ → ℕ → ℕ
address value low = value_bits value 47 low * 2 ^ low

-- bits [1:0]: the type of the descriptor
abbrev pub type_bits : ℕ → ℕ
type_bits value = value_bits value 1 0

-- bits [47:12] of a table: the address of the table of the next level
abbrev pub next_of : ℕ → ℕ
next_of value = address value 12

-- bit 63 of a stage 1 table: NSTable
abbrev pub ns_table : ℕ → Bool
ns_table value = value_bit value 63

-- bits [5:2] of a leaf: at stage 1 AttrIndx [4:2] and NS 5, at stage 2 MemAttr
abbrev pub attrs_of : ℕ → ℕ
attrs_of value = value_bits value 5 2

-- bits [9:8] of a leaf: SH
abbrev pub share_of : ℕ → ℕ
share_of value = value_bits value 9 8

-- bit 11 of a stage 1 leaf: nG
abbrev pub not_global : ℕ → Bool
not_global value = value_bit value 11

-- bit 52 of a leaf: Contiguous
abbrev pub contiguous_of : ℕ → Bool
contiguous_of value = value_bit value 52

-- The output address of a leaf, by its level: bits [47:30] of a level 1 block, [47:21] of a level 2
-- block, [47:12] of a level 3 page. No leaf stands at level 0.
abbrev pub out_of : ℕ → ℕ → ℕ
out_of (suc zero) value = address value 30
out_of (suc (suc zero)) value = address value 21
out_of _ value = address value 12
