-- The fields of the operand of a TLBI for one page or an ASID: the value of its register Xt.
-- Source: Arm ARM (DDI 0487), "TLB maintenance instructions", the argument of each operation.
use Rattle.std.specs.Prelude.{ℕ, Option, None, ◌==◌, if◌then◌else◌}
use Rattle.bbm_regimes.specs.Extent.{hint_of}
use Rattle.bbm_range.specs.RangeOperand.{bits}

-- the ASID
abbrev pub asid_field : ℕ → ℕ
asid_field xt = bits 63 48 xt

-- TTL[3:2], the granule of the level hint
abbrev pub ttl_granule : ℕ → ℕ
ttl_granule xt = bits 47 46 xt

-- TTL[1:0], its level
abbrev pub ttl_level : ℕ → ℕ
ttl_level xt = bits 45 44 xt

-- the page number of a virtual address: VA[55:12]
abbrev pub va_page : ℕ → ℕ
va_page xt = bits 43 0 xt

-- the page number of an intermediate physical address: IPA[47:12]
abbrev pub ipa_page : ℕ → ℕ
ipa_page xt = bits 35 0 xt

-- the bits above a page number of 36 bits, in the field of VA[55:12]: VA[55:48]
abbrev pub top_bits : ℕ → ℕ
top_bits xt = bits 43 36 xt

-- the level hint: TTL[3:2] = 01 is the 4 KiB granule, whose level 0 is read as no hint; the latter is the
-- project's own choice
abbrev pub level_hint : ℕ → Option ℕ
level_hint xt = if ttl_granule xt == 1 then hint_of (ttl_level xt) else None
