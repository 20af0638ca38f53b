-- The listing of what translation tables map, and the answer of a walk by it. They speak of places, of their regions
-- and of their values, and of no bits of an input address.
-- Source: Arm ARM (DDI 0487), "VMSAv8-64 translation table walks". That an address outside the input range is a fault
-- at the start level is the project's own choice.
use Rattle.std.specs.Prelude.{◌≡◌, ℕ, suc, ◌+◌, ◌-◌, ◌*◌, ◌/◌, ◌%◌, ◌^◌, ◌<◌, ◌≤◌, ◌⊎◌, List, [], ◌∷◌}
use Rattle.bbm_regimes.specs.Extent.{span_of}
use Rattle.bbm_descriptor.specs.Fields.{next_of, out_of}
use Rattle.bbm_descriptor.specs.Descriptor.{Form, invalid, table, leaf, form_of}
use Rattle.bbm_descriptor.specs.declared.walk.Walk.{Walk}
use Rattle.bbm_descriptor.specs.declared.walk.Walk.TheVariants.{Out, Fault}

-- what a walk begins with
pub record WalkRoot : Type 0 where
  pub start : ℕ  -- the level at which it starts
  pub page : ℕ  -- the first page of the root
  pub pages : ℕ  -- the number of its pages, which lie one behind the other
  pub first : ℕ  -- the first address of its input range

-- Lists of places are written with the last place in front: each place of a list stands in the next page of the table
-- that follows it in the list, and the last one in a page of the root. The words below that end in `_after` say what
-- comes after such a list of tables, of which there may be none.

-- the level there
abbrev pub level_after : WalkRoot → List ℕ → ℕ
level_after root [] = root.start
level_after root (place ∷ above) = suc (level_after root above)

-- the first page there, and the number of pages
abbrev pub page_after : (ℕ → ℕ) → WalkRoot → List ℕ → ℕ
page_after value root [] = root.page
page_after value root (place ∷ above) = next_of (value place)

abbrev pub pages_after : WalkRoot → List ℕ → ℕ
pages_after root [] = root.pages
pages_after root (place ∷ above) = 1

-- a place of these pages
pub record StandsAfter (value : ℕ → ℕ) (root : WalkRoot) (above : List ℕ) (place : ℕ) : Type 0 where
  pub from : page_after value root above ≤ place
  pub to : place < page_after value root above + 4096 * pages_after root above
  pub aligned : place % 8 ≡ 0

-- which of the places of these pages it is, counted from 0
abbrev pub place_number : (ℕ → ℕ) → WalkRoot → List ℕ → ℕ → ℕ
place_number value root above place = (place - page_after value root above) / 8

-- The region of the place in front of a list: the part with the place's number of the region of the table above it, or
-- of the input range for a place of the root. Each part is as long as the span of the level. In joined pages of a root
-- the numbers go on from page to page, so page j has the j-th part of the input range. The region of an empty list is
-- the input range. It begins at this input address,
abbrev pub region_from : (ℕ → ℕ) → WalkRoot → List ℕ → ℕ
region_from value root [] = root.first
region_from value root (place ∷ above) =
    region_from value root above + place_number value root above place * span_of (level_after root above)

-- and is so many bytes long
abbrev pub region_bytes : WalkRoot → List ℕ → ℕ
region_bytes root [] = root.pages * (512 * span_of root.start)
region_bytes root (place ∷ above) = span_of (level_after root above)

-- the region holds an input address
pub record RegionHolds (value : ℕ → ℕ) (root : WalkRoot) (places : List ℕ) (addr : ℕ) : Type 0 where
  pub from : region_from value root places ≤ addr
  pub to : addr < region_from value root places + region_bytes root places

-- the input range holds the address, and so does the region of each place of the list
abbrev pub EachHolds : (ℕ → ℕ) → WalkRoot → List ℕ → ℕ → Type 0
EachHolds value root [] addr = RegionHolds value root [] addr
EachHolds value root (place ∷ above) addr =
    EachHolds value root above addr × RegionHolds value root (place ∷ above) addr

-- the list begins in a page of the root and goes on through table values into their next pages
abbrev pub Tables : (ℕ → ℕ) → WalkRoot → List ℕ → Type 0
Tables value root [] = Unit {0}
Tables value root (place ∷ above) =
    Tables value root above
    × StandsAfter value root above place
    × (form_of (level_after root above) (value place) ≡ table)

-- so does the list of the place and those above it, and its value is of this form
pub record EndsIn (value : ℕ → ℕ) (root : WalkRoot) (form : Form) (place : ℕ) (above : List ℕ) : Type 0 where
  pub tables : Tables value root above
  pub stands : StandsAfter value root above place
  pub has_form : form_of (level_after root above) (value place) ≡ form

-- The listing has each such list that ends in a leaf, `EndsIn value root leaf place above`, with the region of its last
-- place, and the level and the output address of the leaf.

-- no listed leaf has a region that holds the address
abbrev pub NoLeaf : (ℕ → ℕ) → WalkRoot → ℕ → Type 0
NoLeaf value root addr =
    (place : ℕ) (above : List ℕ) → EndsIn value root leaf place above → ¬ RegionHolds value root (place ∷ above) addr

-- The region of a listed leaf holds the address. The output is that of the leaf and the offset in the region.
pub record AtLeaf (value : ℕ → ℕ) (root : WalkRoot) (addr out level : ℕ) : Type 0 where
  pub place : ℕ
  pub above : List ℕ
  pub ends : EndsIn value root leaf place above
  pub holds : RegionHolds value root (place ∷ above) addr
  pub level_is : level ≡ level_after root above
  pub out_is : out ≡ out_of level (value place) + (addr - region_from value root (place ∷ above))

-- the region of an invalid place holds the address, below tables whose regions hold it
pub record AtInvalid (value : ℕ → ℕ) (root : WalkRoot) (addr level : ℕ) : Type 0 where
  pub place : ℕ
  pub above : List ℕ
  pub ends : EndsIn value root invalid place above
  pub holds : EachHolds value root (place ∷ above) addr
  pub level_is : level ≡ level_after root above

-- The answer for an input address: the listed leaf whose region holds it. Where there is none, a fault at the level of
-- the invalid place whose region holds it, or at the start level where the address is outside the input range.
abbrev pub IsAnswer : (ℕ → ℕ) → WalkRoot → ℕ → Walk → Type 0
IsAnswer value root addr (Out out level) = AtLeaf value root addr out level
IsAnswer value root addr (Fault level) =
    NoLeaf value root addr
    × (AtInvalid value root addr level ⊎ (¬ RegionHolds value root [] addr × (level ≡ root.start)))

-- answers fit: an output address is below 2^48, and leaves stand below level 0
abbrev pub WalkFits : Walk → Type 0
WalkFits (Out out level) = (out < 2 ^ 48) × (1 ≤ level) × (level ≤ 3)
WalkFits (Fault level) = level ≤ 3

-- a root begins at a page, and its input range at a multiple of what a place of it translates
pub record IsAligned (root : WalkRoot) : Type 0 where
  pub page : root.page % 4096 ≡ 0
  pub first : root.first % span_of root.start ≡ 0

-- a walk for the address comes to the place at the level, through these tables
pub record ComesTo (value : ℕ → ℕ) (root : WalkRoot) (addr level place : ℕ) (above : List ℕ) : Type 0 where
  pub aligned : IsAligned root
  pub tables : Tables value root above
  pub stands : StandsAfter value root above place
  pub holds : EachHolds value root (place ∷ above) addr
  pub level_is : level ≡ level_after root above
