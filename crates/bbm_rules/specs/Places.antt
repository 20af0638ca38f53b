-- Pages and places as addresses.
use Rattle.std.specs.Prelude.{ℕ, ◌*◌, ◌/◌, ◌%◌}

-- A page is an address that is a multiple of 4096 below 2^48. A place is the address of one descriptor, a
-- multiple of 8 below 2^48. This is the page of a place.
-- Source: Arm ARM (DDI 0487), "VMSAv8-64 descriptor formats", the 4 KiB granule with 48-bit addresses.
abbrev pub page_of : ℕ → ℕ
page_of place = place / 4096 * 4096

-- which of the 512 descriptors of its page a place is
abbrev pub index_of : ℕ → ℕ
index_of place = place % 4096 / 8
