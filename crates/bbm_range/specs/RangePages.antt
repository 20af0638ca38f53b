-- The pages that the operand of a TLBI for a range names.
-- Source: Arm ARM (DDI 0487), "TLB maintenance instructions", the range operations; that the range ends at the
-- last page number, and that an operand whose BASE doesn't fit its hint is refused, is the project's own choice.
use Rattle.std.specs.Prelude.{ℕ, Bool, true, Result, Ok, Err, ◌+◌, ◌-◌, ◌*◌, ◌%◌, ◌^◌, ◌<◌, ◌≤◌, ◌==◌, nat_lt}
use Rattle.std.specs.Prelude.{if◌then◌else◌}
use Rattle.bbm_regimes.specs.Extent.{hint_of}
use Rattle.bbm_range.specs.declared.Range.{Range}
use Rattle.bbm_range.specs.declared.BadRange.{BadRange}
use Rattle.bbm_range.specs.declared.BadRange.TheVariants.{Granule, Unaligned}
use Rattle.bbm_range.specs.RangeOperand.{tg, scale, num, ttl, base, base_sign}

-- the number of page numbers: those of an address of 56 bits
abbrev pub page_numbers : ℕ
page_numbers = 2 ^ 44

-- how many pages the range has, where it doesn't pass the last page number
abbrev pub page_count : ℕ → ℕ
page_count xt = (num xt + 1) * 2 ^ (5 * scale xt + 1)

-- whether the range is in the highest part of the page numbers, where the highest bit of BASE is set
abbrev pub is_upper : ℕ → Bool
is_upper xt = base_sign xt == 1

-- the first page number: the bits above BASE are copies of its highest bit
abbrev pub first_page : ℕ → ℕ
first_page xt = if is_upper xt then base xt + 2 ^ 44 - 2 ^ 37 else base xt

-- the operand names the page number
abbrev pub Names : ℕ → ℕ → Type 0
Names xt n = (first_page xt ≤ n) × (n < first_page xt + page_count xt) × (n < page_numbers)

-- the page number is in the range
abbrev pub Has : Range → ℕ → Type 0
Has range n = (range.lo ≤ n) × (n ≤ range.hi)

-- the lesser of two numbers
abbrev pub least : ℕ → ℕ → ℕ
least a b = if nat_lt a b then a else b

-- the last page number that the operand names
abbrev pub last_page : ℕ → ℕ
last_page xt = least (first_page xt + page_count xt - 1) (page_numbers - 1)

-- whether BASE is a multiple of the pages that one entry of the hint's level has: 2^18 at level 1, 2^9 at level 2
abbrev pub is_aligned : ℕ → Bool
is_aligned xt =
    if ttl xt == 1 then base xt % 2 ^ 18 == 0 else if ttl xt == 2 then base xt % 2 ^ 9 == 0 else true

-- the range of an operand without a fault
abbrev pub named : ℕ → Range
named xt = record { lo = first_page xt; hi = last_page xt; level = hint_of (ttl xt) }

-- the range, or what is wrong with the operand: the granule first, then the alignment
abbrev pub range_of : ℕ → Result Range BadRange
range_of xt = if tg xt == 1 then (if is_aligned xt then Ok (named xt) else Err Unaligned) else Err Granule
