-- Worked cases: values of places by the tables of descriptor fields, those of the worked logs among them.
use Rattle.bbm_type_tests.proofs.Common.{[], ◌∷◌, true, false, refl, El2, S2, Ttbr0, Ttbr1}
use Rattle.bbm_descriptor.specs.declared.desc.Desc.TheVariants.{Invalid, Table, Leaf}
use Rattle.bbm_descriptor.specs.Descriptor.{desc_of, needs}
use Rattle.bbm_type_tests.proofs.Rows.{Gives3, Gives4}

-- A kind, a level, a value, and what it means there: a table has its next table and NSTable; a leaf has its output
-- address, bits [5:2], SH, whether it is global, and Contiguous.
pub stage_1 : Gives3 desc_of (
    (El2, 0, 0x0, Invalid)
    ∷ (El2, 0, 0x4000_1003, Table 0x4000_1000 false)
    ∷ (Ttbr0, 0, 0x8000_0000_4000_1003, Table 0x4000_1000 true)
    ∷ (El2, 0, 0x8000_0000_4000_1003, Table 0x4000_1000 true)
    ∷ (El2, 0, 0x8000_0701, Invalid)
    ∷ (El2, 1, 0x200, Invalid)
    ∷ (El2, 1, 0x8000_0702, Invalid)
    ∷ (El2, 1, 0x4000_0003, Table 0x4000_0000 false)
    ∷ (El2, 1, 0xffff_ffff_f003, Table 0xffff_ffff_f000 false)
    ∷ (El2, 1, 0x8000_0701, Leaf 0x8000_0000 0 3 true false)
    ∷ (El2, 1, 0x8000_0781, Leaf 0x8000_0000 0 3 true false)
    ∷ (Ttbr1, 1, 0x8000_0f01, Leaf 0x8000_0000 0 3 false false)
    ∷ (El2, 1, 0x8000_0f21, Leaf 0x8000_0000 8 3 false false)
    ∷ (El2, 1, 0x10_0000_8000_0701, Leaf 0x8000_0000 0 3 true true)
    ∷ (El2, 1, 0xffff_ffff_ffff_fffd, Leaf 0xffff_c000_0000 15 3 false true)
    ∷ (Ttbr1, 2, 0x4000_2003, Table 0x4000_2000 false)
    ∷ (Ttbr0, 2, 0xffff_ffff_fffd, Leaf 0xffff_ffe0_0000 15 3 false false)
    ∷ (El2, 3, 0x4000_0701, Invalid)
    ∷ (El2, 3, 0x4000_1703, Leaf 0x4000_1000 0 3 true false)
    ∷ (Ttbr0, 3, 0x40_0012_3456_7a2f, Leaf 0x12_3456_7000 11 2 false false)
    ∷ [])
stage_1 = refl

pub stage_2 : Gives3 desc_of (
    (S2, 0, 0x8000_07fd, Invalid)
    ∷ (S2, 0, 0x8000_0000_4001_1003, Table 0x4001_1000 false)
    ∷ (S2, 1, 0x200, Invalid)
    ∷ (S2, 1, 0x4000_3003, Table 0x4000_3000 false)
    ∷ (S2, 1, 0x8000_07fd, Leaf 0x8000_0000 15 3 false false)
    ∷ (S2, 1, 0x8000_0ffd, Leaf 0x8000_0000 15 3 false false)
    ∷ (S2, 2, 0x4021_2003, Table 0x4021_2000 false)
    ∷ (S2, 2, 0x4020_07fd, Leaf 0x4020_0000 15 3 false false)
    ∷ (S2, 2, 0x403f_f129, Leaf 0x4020_0000 10 1 false false)
    ∷ (S2, 3, 0x4000_07fd, Invalid)
    ∷ (S2, 3, 0x4000_17ff, Leaf 0x4000_1000 15 3 false false)
    ∷ (S2, 3, 0xffff_ffff_ffff_ffff, Leaf 0xffff_ffff_f000 15 3 false true)
    ∷ [])
stage_2 = refl

-- A kind, a level, an old and a new value, and whether the write needs break-before-make.
pub break_before_make : Gives4 needs (
    -- another output address, other permissions, a table in the place of a block
    (El2, 1, 0x8000_0701, 0xc000_0701, true)
    ∷ (El2, 1, 0x8000_0701, 0x8000_0781, false)
    ∷ (El2, 1, 0x8000_0701, 0x4000_1003, true)
    ∷ (S2, 1, 0x8000_07fd, 0xc000_07fd, true)
    -- one of them invalid, or both
    ∷ (El2, 1, 0x8000_0701, 0x0, false)
    ∷ (El2, 1, 0x200, 0x8000_0701, false)
    ∷ (El2, 0, 0x8000_0701, 0xc000_0701, false)
    -- nG, bit 11
    ∷ (Ttbr1, 1, 0x8000_0701, 0x8000_0f01, true)
    ∷ (El2, 1, 0x8000_0701, 0x8000_0f01, true)
    ∷ (S2, 1, 0x8000_07fd, 0x8000_0ffd, false)
    -- SH and the memory attributes
    ∷ (S2, 1, 0x8000_07fd, 0x8000_04fd, true)
    ∷ (S2, 1, 0x8000_07fd, 0x8000_07c1, true)
    ∷ (El2, 1, 0x8000_0701, 0x8000_0721, true)
    -- AF, then DBM, then bits 54 and 53, then the bits for software, then Contiguous
    ∷ (El2, 1, 0x8000_0701, 0x8000_0301, false)
    ∷ (El2, 1, 0x8000_0701, 0x8_0000_8000_0701, false)
    ∷ (El2, 1, 0x8000_0701, 0x60_0000_8000_0701, false)
    ∷ (El2, 1, 0x8000_0701, 0x780_0000_8000_0701, false)
    ∷ (El2, 1, 0x8000_0701, 0x10_0000_8000_0701, true)
    -- the next table, and NSTable
    ∷ (S2, 2, 0x4000_1003, 0x4000_3003, true)
    ∷ (Ttbr0, 0, 0x4000_1003, 0x8000_0000_4000_1003, true)
    ∷ (El2, 0, 0x4000_1003, 0x8000_0000_4000_1003, true)
    ∷ (S2, 0, 0x4000_1003, 0x8000_0000_4000_1003, false)
    -- bits 01 are invalid at level 3
    ∷ (El2, 3, 0x4000_0703, 0x8000_0701, false)
    ∷ [])
break_before_make = refl
