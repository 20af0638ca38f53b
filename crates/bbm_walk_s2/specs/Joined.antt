-- The input range of a stage 2 root, and its joined pages.
use Rattle.std.specs.Prelude.{ℕ, Bool, not, ◌&&◌, ◌||◌, ◌==◌}
use Rattle.bbm_descriptor.specs.Listing.{WalkRoot}

-- What a walk of a stage 2 root begins with: its joined pages, at its start level. Its input range begins at address 0.
-- Source: Arm ARM (DDI 0487), "VMSAv8-64 translation table walks", concatenated tables.
abbrev pub stage2_root : ℕ → ℕ → ℕ → WalkRoot
stage2_root start pages page = record { start = start; page = page; pages = pages; first = 0 }

-- Whether a root can have so many pages: 1, 2, 4, 8 or 16, and 1 where walks start at level 0.
-- Source: Arm ARM (DDI 0487), "VMSAv8-64 translation table walks", concatenated tables.
abbrev pub can_join : ℕ → ℕ → Bool
can_join start pages =
    pages == 1 || not (start == 0) && (pages == 2 || pages == 4 || pages == 8 || pages == 16)
