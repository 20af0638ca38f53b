-- The input range of a stage 1 root.
use Rattle.std.specs.Prelude.{ℕ, ◌-◌, ◌*◌, ◌^◌, Bool, true, false}
use Rattle.bbm_regimes.specs.Extent.{span_of}
use Rattle.bbm_descriptor.specs.Listing.{WalkRoot}

-- The first input address of a root, by its start level and whether its range is the high one. A low range begins at
-- 0. A high range is the highest 512 spans of the 64-bit addresses.
-- Source: Arm ARM (DDI 0487), "VMSAv8-64 translation table walks"; that the bits above the range are all ones is the
-- project's own choice of what a high range is.
abbrev pub first_address : ℕ → Bool → ℕ
first_address start false = 0
first_address start true = 2 ^ 64 - 512 * span_of start

-- what a walk of a stage 1 root begins with: one page, at its start level
abbrev pub stage1_root : ℕ → Bool → ℕ → WalkRoot
stage1_root start high page =
    record { start = start; page = page; pages = 1; first = first_address start high }
