-- Readable tags: what the readable values of the registers of a PE name, each with its tag.
use Rattle.std.specs.Prelude.{ℕ, Bool, false, ◌&&◌, not, ◌==◌, ◌+◌, List, [], ◌∷◌, ◌++◌, Option, Some, None, is_some}
use Rattle.std.specs.Prelude.{flat_map}
use Rattle.std.specs.List.{list_any}
pub use Rattle.bbm_regimes.specs.SameRegister.{same_tag, tag_of}
use Rattle.bbm_regimes.specs.declared.regime.AsidFrom.{AsidFrom}
use Rattle.bbm_regimes.specs.declared.regime.AsidFrom.TheVariants.{Ttbr0 as FromTtbr0, Ttbr1 as FromTtbr1}
use Rattle.bbm_regimes.specs.declared.regime.Kind.{Kind}
use Rattle.bbm_regimes.specs.declared.regime.Kind.TheVariants.{El2, S2, Ttbr0, Ttbr1}
use Rattle.bbm_regimes.specs.declared.regime.Tag.{Tag}
use Rattle.bbm_regimes.specs.declared.regime.Tag.TheVariants.{El2 as El2Tag, Vmid, Asid, Ttbr1 as Ttbr1Tag}
use Rattle.bbm_regimes.specs.declared.regime.World.{World}
use Rattle.bbm_regimes.specs.declared.regime.World.TheVariants.{Hyp, Kernel}
use Rattle.bbm_roots.specs.declared.load.RootValue.{RootValue}
use Rattle.bbm_roots.specs.declared.reading.Reading.{Reading}

-- The place of a tag in the order `El2`, VMIDs, ASIDs, `Ttbr1`. Source: project's own choice.
abbrev pub tag_rank : Tag → ℕ
tag_rank El2Tag = 0
tag_rank (Vmid v) = 1 + v
tag_rank (Asid a) = 65537 + a
tag_rank Ttbr1Tag = 131073

-- the tag with the root, where there is one
abbrev pub reading_at : Tag → Option ℕ → List Reading
reading_at tag None = []
reading_at tag (Some root) = record { tag = tag; root = root } ∷ []

abbrev pub own_reading : Kind → RootValue → List Reading
own_reading kind load = reading_at (tag_of kind load.number) load.root

abbrev pub reading_under : Tag → RootValue → List Reading
reading_under tag load = reading_at tag load.root

abbrev pub readings_with : List RootValue → RootValue → List Reading
readings_with loads asid_load = flat_map (reading_under (Asid asid_load.number)) loads

-- the ASID is that of the same value of TTBR0_EL1, or that of a value of TTBR1_EL1
abbrev pub asid_readings : AsidFrom → List RootValue → List RootValue → List Reading
asid_readings FromTtbr0 first second = flat_map (own_reading Ttbr0) first
asid_readings FromTtbr1 first second = flat_map (readings_with first) second

-- Readable tags of a PE, of the readable values of the two registers of the world: `El2` for the base of each
-- readable value of TTBR0_EL2; `Vmid` of a readable value of VTTBR_EL2 for its base; `Ttbr1` for the base of each
-- readable value of TTBR1_EL1; `Asid` for the base of a readable value of TTBR0_EL1, with the ASID of that value
-- or of a readable value of TTBR1_EL1, as the header says. Tags of the other world are never readable.
-- Source: Arm ARM (DDI 0487), "Translation Lookaside Buffers", and TCR_EL1.A1 of "AArch64 System register
-- descriptions".
abbrev pub readings_of : World → List RootValue → List RootValue → List Reading
readings_of (Hyp world) first second =
    flat_map (own_reading El2) first ++ flat_map (own_reading S2) second
readings_of (Kernel world) first second =
    asid_readings world.asid_from first second ++ flat_map (own_reading Ttbr1) second

-- whether the tag is readable for the root, for some root, and for another root
abbrev pub is_reading : Tag → ℕ → Reading → Bool
is_reading tag root reading = same_tag reading.tag tag && reading.root == root

abbrev pub is_of_tag : Tag → Reading → Bool
is_of_tag tag reading = same_tag reading.tag tag

abbrev pub is_other : Tag → ℕ → Reading → Bool
is_other tag root reading = same_tag reading.tag tag && not (reading.root == root)

abbrev pub has_reading : Tag → ℕ → List Reading → Bool
has_reading tag root rs = list_any (is_reading tag root) rs

abbrev pub has_tag : Tag → List Reading → Bool
has_tag tag rs = list_any (is_of_tag tag) rs

abbrev pub has_other : Tag → ℕ → List Reading → Bool
has_other tag root rs = list_any (is_other tag root) rs

-- whether a value names a root, and with which VMID or ASID
abbrev pub names_root : RootValue → Bool
names_root load = is_some load.root

abbrev pub names_root_with : ℕ → RootValue → Bool
names_root_with number load = is_some load.root && load.number == number

abbrev pub numbered : ℕ → RootValue → Bool
numbered number load = load.number == number

abbrev pub names_some : List RootValue → Bool
names_some loads = list_any names_root loads

abbrev pub names_with : ℕ → List RootValue → Bool
names_with number loads = list_any (names_root_with number) loads

abbrev pub has_number : ℕ → List RootValue → Bool
has_number number loads = list_any (numbered number) loads

-- the same as `has_tag` of the readings, without a list of them
abbrev pub reads_asid : AsidFrom → List RootValue → List RootValue → ℕ → Bool
reads_asid FromTtbr0 first second a = names_with a first
reads_asid FromTtbr1 first second a = names_some first && has_number a second

abbrev pub reads_tag : World → List RootValue → List RootValue → Tag → Bool
reads_tag (Hyp world) first second El2Tag = names_some first
reads_tag (Hyp world) first second (Vmid v) = names_with v second
reads_tag (Kernel world) first second Ttbr1Tag = names_some second
reads_tag (Kernel world) first second (Asid a) = reads_asid world.asid_from first second a
reads_tag _ first second _ = false
