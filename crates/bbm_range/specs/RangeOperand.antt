-- The fields of the operand of a TLBI for a range of pages: the value of its register Xt.
-- Source: Arm ARM (DDI 0487), "TLB maintenance instructions", the argument of the range operations, with a
-- translation granule of 4 KiB. That every operand is read by this layout is the project's own choice.
use Rattle.std.specs.Prelude.{ℕ, ◌+◌, ◌-◌, ◌/◌, ◌%◌, ◌^◌}

-- the number in the bits from high down to low
abbrev pub bits : ℕ → ℕ → ℕ → ℕ
bits high low x = x / 2 ^ low % 2 ^ (high + 1 - low)

-- TG, the translation granule: 01 is 4 KiB
abbrev pub tg : ℕ → ℕ
tg xt = bits 47 46 xt

-- SCALE and NUM, which give the number of pages
abbrev pub scale : ℕ → ℕ
scale xt = bits 45 44 xt

abbrev pub num : ℕ → ℕ
num xt = bits 43 39 xt

-- TTL, the level hint: 0 is no hint
abbrev pub ttl : ℕ → ℕ
ttl xt = bits 38 37 xt

-- BASE, the first page number in 37 bits
abbrev pub base : ℕ → ℕ
base xt = bits 36 0 xt

-- the highest bit of BASE
abbrev pub base_sign : ℕ → ℕ
base_sign xt = bits 36 36 xt
