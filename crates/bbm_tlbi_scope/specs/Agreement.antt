-- What an entry and a place of a tree have in common, where the entry was read through the place.
use Rattle.std.specs.Prelude.{◌≡◌, ◌⊎◌, Bool, true, false, not, ◌&&◌, ◌≤◌}
use Rattle.bbm_regimes.specs.Extent.{holds}
use Rattle.bbm_regimes.specs.declared.regime.Kind.{Kind}
use Rattle.bbm_regimes.specs.declared.regime.Kind.TheVariants.{El2, S2, Ttbr0, Ttbr1}
use Rattle.bbm_regimes.specs.declared.regime.Tag.{Tag}
use Rattle.bbm_regimes.specs.declared.regime.Tag.TheVariants.{El2 as El2Tag, Vmid, Asid, Ttbr1 as Ttbr1Tag}
use Rattle.bbm_tlbi_scope.specs.declared.entry.EntryKind.{EntryKind}
use Rattle.bbm_tlbi_scope.specs.declared.entry.EntryKind.TheVariants.{El2 as El2Entry, Stage2, Combined, El1}
use Rattle.bbm_tlbi_scope.specs.declared.entry.EntryHead.{EntryHead}
use Rattle.bbm_tlbi_scope.specs.declared.entry.PlaceView.{PlaceView}
use Rattle.bbm_tlbi_scope.specs.declared.entry.TagSet.{TagSet}
use Rattle.bbm_tlbi_scope.specs.declared.entry.TagSet.TheVariants.{None as NoTag, One, Many}
use Rattle.bbm_tlbi_scope.specs.declared.entry.Cover.{Cover}
use Rattle.bbm_tlbi_scope.specs.declared.entry.Cover.TheVariants.{Half, Second, Full}
use Rattle.bbm_tlbi_scope.specs.declared.scope.Family.{Family}
use Rattle.bbm_tlbi_scope.specs.Operations.{has_asid}
use Rattle.bbm_tlbi_scope.specs.Takes.{is_global_leaf}

-- whether entries of this kind are read through trees of that kind
abbrev pub read_through : EntryKind → Kind → Bool
read_through El2Entry El2 = true
read_through Stage2 S2 = true
read_through Combined S2 = true
read_through El1 Ttbr0 = true
read_through El1 Ttbr1 = true
read_through _ _ = false

-- the tag of an entry that was read through a tree of this kind
abbrev pub tag_of : Kind → EntryHead → Tag
tag_of El2 e = El2Tag
tag_of S2 e = Vmid e.vmid
tag_of Ttbr0 e = Asid e.asid
tag_of Ttbr1 e = Ttbr1Tag

-- the tag is among those of the root
abbrev pub HasTag : TagSet → Tag → Type 0
HasTag NoTag tag = ⊥
HasTag (One held) tag = held ≡ tag
HasTag Many tag = Unit {0}

-- Where the entry ends, by whether the place holds a table and whether the table is childless: in the
-- leaf at the place; in the childless table at the place; or in a table that isn't childless or below it,
-- within its region.
abbrev pub EndsBy : Bool → Bool → EntryHead → PlaceView → Type 0
EndsBy false childless e v = (e.last ≡ true) × (e.region ≡ v.region) × (e.level ≡ v.level)
EndsBy true true e v = (e.last ≡ false) × (e.region ≡ v.region)
EndsBy true false e v = holds v.region e.region ≡ true

-- The entry was read through the place, as the place is seen at the issue of a TLBI.
pub record Agrees (e : EntryHead) (v : PlaceView) : Type 0 where
  -- the entry is of a kind that is read through trees of the place's kind
  pub kind : read_through e.kind v.kind ≡ true
  -- the root of the place holds the entry's tag
  pub tag : HasTag v.tags (tag_of v.kind e)
  -- the entry ends at the place or below it
  pub ending : EndsBy v.table v.childless e v
  -- the entry's region has a page
  pub region : e.region.lo ≤ e.region.hi
  -- no leaf of the lower range is for every ASID
  pub lower : v.kind ≡ Ttbr0 → is_global_leaf e ≡ false
  -- an entry that ends in a leaf of the upper range is for every ASID where the leaf is
  pub upper : v.kind ≡ Ttbr1 → v.table ≡ false → v.global ≡ true → e.global ≡ true

-- An entry that ends at the place, whose root holds no other tag: so that what takes the entry covers the place.
pub record EndsAlone (f : Family) (e : EntryHead) (v : PlaceView) : Type 0 where
  pub agrees : Agrees e v
  -- the root of the place holds the entry's tag alone
  pub alone : v.tags ≡ One (tag_of v.kind e)
  -- a table at the place is childless
  pub ending : v.table ≡ true → v.childless ≡ true
  -- in the upper range the entry and the leaf at the place are for every ASID, or the TLBI isn't for one ASID alone
  pub for_all : v.kind ≡ Ttbr1 → ((is_global_leaf e ≡ true) × ((not v.table && v.global) ≡ true)) ⊎ (has_asid f ≡ false)

-- How far a place is covered by what takes an entry that ends there: in full; or half, where the entry is one of stage 2;
-- or the rest, where it combines the stages.
abbrev pub IsCoverFor : EntryKind → Cover → Type 0
IsCoverFor kind cover = (cover ≡ Full) ⊎ (((kind ≡ Stage2) × (cover ≡ Half)) ⊎ ((kind ≡ Combined) × (cover ≡ Second)))
