-- What a world says of its tables: the ranges of its fields, its kinds, and the pages, the start level and the input
-- addresses of a root of each kind.
use Rattle.std.specs.Prelude.{ℕ, ◌-◌, ◌*◌, ◌/◌, ◌^◌, Bool, true, false, ◌&&◌, ◌||◌, ◌==◌, nat_le, if◌then◌else◌}
use Rattle.bbm_regimes.specs.Extent.{span_of}
use Rattle.bbm_regimes.specs.declared.regime.Kind.{Kind}
use Rattle.bbm_regimes.specs.declared.regime.Kind.TheVariants.{El2, S2, Ttbr0, Ttbr1}
use Rattle.bbm_regimes.specs.declared.regime.World.{World}
use Rattle.bbm_regimes.specs.declared.regime.World.TheVariants.{Hyp, Kernel}

-- whether a stage 2 root can have so many joined pages, where its walks start at the level
abbrev pub are_s2_pages : ℕ → ℕ → Bool
are_s2_pages start pages =
    if start == 0 then pages == 1 else (pages == 1 || pages == 2 || pages == 4 || pages == 8 || pages == 16)

-- The ranges of a world's fields. A tree of one page that starts at level 0, 1 or 2 translates 48, 39 or
-- 30 bits of input address; joined root pages add a bit for each doubling.
-- Source: Arm ARM (DDI 0487), "VMSAv8-64 translation table walks"; that a stage 2 tree which starts at
-- level 0 has one root page is the architecture's limit of 48 bits.
abbrev pub world_ok : World → Bool
world_ok (Hyp world) = nat_le world.el2_start 2 && nat_le world.s2_start 2 && are_s2_pages world.s2_start world.s2_pages
world_ok (Kernel world) = nat_le world.start0 2 && nat_le world.start1 2

-- The number of consecutive pages of a root: one, or the world's number of joined pages at stage 2.
-- Source: Arm ARM (DDI 0487), "VMSAv8-64 translation table walks", concatenated translation tables.
abbrev pub page_count : World → Kind → ℕ
page_count (Hyp world) S2 = world.s2_pages
page_count _ _ = 1

-- whether the kind is one of the world
abbrev pub kind_in_world : World → Kind → Bool
kind_in_world (Hyp world) El2 = true
kind_in_world (Hyp world) S2 = true
kind_in_world (Kernel world) Ttbr0 = true
kind_in_world (Kernel world) Ttbr1 = true
kind_in_world _ _ = false

-- The level at which walks of a kind of the world start.
-- Source: Arm ARM (DDI 0487), "VMSAv8-64 translation table walks".
abbrev pub start_of : World → Kind → ℕ
start_of (Hyp world) El2 = world.el2_start
start_of (Hyp world) S2 = world.s2_start
start_of (Kernel world) Ttbr0 = world.start0
start_of (Kernel world) Ttbr1 = world.start1
start_of _ _ = 0

-- the number of input pages that one descriptor of a level translates
abbrev pub input_pages : ℕ → ℕ
input_pages level = span_of level / 4096

-- The first input page number of a kind's trees. Regions count from input address 0, but for the upper range,
-- which is the highest part of the addresses: its last page is 2^44 - 1.
-- Source: Arm ARM (DDI 0487), "VMSAv8-64 translation table walks".
abbrev pub first_input_page : World → Kind → ℕ
first_input_page world Ttbr1 = 2 ^ 44 - 512 * input_pages (start_of world Ttbr1)
first_input_page world _ = 0
