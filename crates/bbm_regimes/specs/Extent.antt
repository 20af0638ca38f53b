-- Intervals of input page numbers, the span of a descriptor, and the level of a level hint.
use Rattle.std.specs.Prelude.{ℕ, Bool, ◌^◌, ◌≤◌, ◌-◌, ◌*◌, ◌+◌, ◌&&◌, ◌==◌, nat_le, Option, Some, None, if◌then◌else◌}

-- the page numbers from lo to hi, both among them
pub record Extent : Type 0 where
  pub lo : ℕ
  pub hi : ℕ

-- the page number is in the interval
abbrev pub Has : Extent → ℕ → Type 0
Has e n = (e.lo ≤ n) × (n ≤ e.hi)

-- some page number is in both
abbrev pub Meets : Extent → Extent → Type 0
Meets e f = (n : ℕ) × Has e n × Has f n

-- each page number of the second is in the first
abbrev pub Holds : Extent → Extent → Type 0
Holds e f = (n : ℕ) → Has f n → Has e n

-- the same two as tests of the ends; on intervals whose first number is at most the last they say the same
abbrev pub meets : Extent → Extent → Bool
meets e f = nat_le e.lo f.hi && nat_le f.lo e.hi

abbrev pub holds : Extent → Extent → Bool
holds e f = nat_le e.lo f.lo && nat_le f.hi e.hi

-- The bytes of input addresses that one descriptor of a level translates. Each of the four levels
-- takes nine bits of the address above the 12 bits within a page.
-- Source: Arm ARM (DDI 0487), "VMSAv8-64 translation table walks", the 4 KiB granule.
abbrev pub span_of : ℕ → ℕ
span_of level = 2 ^ (12 + 9 * (3 - level))

-- the level that the bits of a level hint give; that 0 is no hint is the project's own choice
abbrev pub hint_of : ℕ → Option ℕ
hint_of bits = if bits == 0 then None else Some bits
