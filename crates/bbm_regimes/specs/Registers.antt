-- What the value of a root register names.
-- Source: Arm ARM (DDI 0487), "AArch64 System register descriptions", TTBR0_EL2, VTTBR_EL2, TTBR0_EL1 and TTBR1_EL1.
use Rattle.std.specs.Prelude.{ℕ, ◌*◌, ◌/◌, ◌%◌, ◌^◌, ◌==◌, if◌then◌else◌, Option, Some, None}

-- The base: bits [47:1], as an address. Bit 0 is ignored. That value 0 names none is the project's own choice.
abbrev pub base_of : ℕ → Option ℕ
base_of value = if value == 0 then None else Some (value % 2 ^ 48 / 2 * 2)

-- The VMID or the ASID: bits [63:48]; 0 of value 0.
abbrev pub tag_number : ℕ → ℕ
tag_number value = value / 2 ^ 48
