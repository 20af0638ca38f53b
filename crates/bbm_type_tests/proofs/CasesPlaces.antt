-- Worked cases: how far TLBIs cover places.
use Rattle.bbm_type_tests.proofs.Common.{ℕ, Bool, [], ◌∷◌, true, false, Option, Some, None, Result, Ok, Err, refl, El2}
use Rattle.bbm_type_tests.proofs.Common.{S2, Ttbr0, Ttbr1, TlbiOp, Alle1, Alle1is, Alle2, Aside1is, Ipas2e1is}
use Rattle.bbm_type_tests.proofs.Common.{Ipas2le1is, Ripas2e1is, Rvae2is, Rvale2is, Vaae1is, Vae1is, Vae2is, Vale2is}
use Rattle.bbm_type_tests.proofs.Common.{Vmalle1is, Vmalls12e1is, Scope, BadOperand, Cover, scope_of}
use Rattle.bbm_regimes.specs.declared.regime.Kind.{Kind}
use Rattle.bbm_regimes.specs.declared.regime.Tag.TheVariants as tag
use Rattle.bbm_tlbi_scope.specs.declared.entry.TagSet.{TagSet}
use Rattle.bbm_tlbi_scope.specs.declared.entry.TagSet.TheVariants as tags
use Rattle.bbm_tlbi_scope.specs.declared.entry.PlaceView.{PlaceView}
use Rattle.bbm_tlbi_scope.specs.declared.entry.Cover.TheVariants as cover
use Rattle.bbm_tlbi_scope.specs.ScopeCovers.{cover_of}
use Rattle.bbm_type_tests.proofs.Rows.{Gives2, Gives3}

-- how far a TLBI under a VMID covers a place, None where its operand can't be decoded
abbrev covers : Option ℕ → PlaceView → Result Scope BadOperand → Option Cover
covers vmid view (Ok scope) = Some (cover_of scope vmid view)
covers vmid view (Err why) = None

-- what a place holds: a leaf, a table that holds something, or one that holds nothing
pub data Holding : Type 0 where
  Leaf : Holding
  FullTable : Holding
  EmptyTable : Holding

abbrev is_table : Holding → Bool
is_table Leaf = false
is_table FullTable = true
is_table EmptyTable = true

abbrev is_childless : Holding → Bool
is_childless Leaf = false
is_childless FullTable = false
is_childless EmptyTable = true

-- the place of level 1 of the first gigabyte above 1 GiB
abbrev gigabyte : Kind → Holding → TagSet → PlaceView
gigabyte kind holding tags = record {
  kind = kind;
  region = record { lo = 0x40000; hi = 0x7ffff };
  level = 1;
  table = is_table holding;
  global = false;
  childless = is_childless holding;
  tags = tags;
}

pub el2_places : Gives3 (λ op xt holding. covers (Some 5) (gigabyte El2 holding (tags.One tag.El2)) (scope_of op xt)) (
    (Vae2is, 0x40000, Leaf, Some cover.Full)
    ∷ (Vae2is, 0x80000, Leaf, Some cover.None)
    ∷ (Vale2is, 0x600000040000, Leaf, Some cover.None)
    ∷ (Alle2, 0, Leaf, Some cover.Full)
    ∷ (Alle2, 0, FullTable, Some cover.Full)
    ∷ (Vae2is, 0x40000, EmptyTable, Some cover.Full)
    ∷ (Vale2is, 0x40000, EmptyTable, Some cover.None)
    ∷ (Vae2is, 0x40000, FullTable, Some cover.None)
    ∷ (Rvae2is, 0x718000040000, FullTable, Some cover.Full)
    ∷ (Rvae2is, 0x710000040000, FullTable, Some cover.None)
    ∷ (Rvae2is, 0x710000040000, EmptyTable, Some cover.Full)
    ∷ (Rvae2is, 0x71a000040000, FullTable, Some cover.None)
    ∷ (Rvale2is, 0x718000040000, EmptyTable, Some cover.None)
    ∷ (Rvale2is, 0x71a000040000, Leaf, Some cover.Full)
    ∷ [])
el2_places = refl

abbrev pub covers_stage_2 : TlbiOp → ℕ → Holding → Option Cover
covers_stage_2 op xt holding = covers (Some 5) (gigabyte S2 holding (tags.One (tag.Vmid 5))) (scope_of op xt)

pub stage_2_places : Gives3 covers_stage_2 (
    (Ipas2e1is, 0x40000, Leaf, Some cover.Half)
    ∷ (Ipas2e1is, 0x500000040000, Leaf, Some cover.Half)
    ∷ (Ipas2e1is, 0x80000, Leaf, Some cover.None)
    ∷ (Ripas2e1is, 0x71a000040000, Leaf, Some cover.Half)
    ∷ (Vmalle1is, 0, Leaf, Some cover.Second)
    ∷ (Vmalls12e1is, 0, FullTable, Some cover.Full)
    ∷ (Alle1, 0, FullTable, Some cover.Full)
    ∷ (Ipas2e1is, 0x40000, FullTable, Some cover.None)
    ∷ (Ripas2e1is, 0x718000040000, FullTable, Some cover.Half)
    ∷ (Ipas2e1is, 0x40000, EmptyTable, Some cover.Half)
    ∷ (Ipas2le1is, 0x40000, EmptyTable, Some cover.None)
    ∷ (Aside1is, 0x5000000000000, Leaf, Some cover.None)
    ∷ [])
stage_2_places = refl

-- The tags that the root of the stage 2 leaf holds.
pub vmids : Gives2 (λ op held. covers (Some 5) (gigabyte S2 Leaf held) (scope_of op 0x40000)) (
    (Vmalle1is, tags.One (tag.Vmid 6), Some cover.None)
    ∷ (Vmalls12e1is, tags.One (tag.Vmid 6), Some cover.None)
    ∷ (Vmalls12e1is, tags.None, Some cover.Full)
    ∷ (Vmalls12e1is, tags.Many, Some cover.None)
    ∷ (Ipas2e1is, tags.None, Some cover.Half)
    ∷ (Ipas2e1is, tags.Many, Some cover.None)
    ∷ (Vmalle1is, tags.None, Some cover.Second)
    ∷ (Vmalle1is, tags.Many, Some cover.None)
    ∷ (Alle1is, tags.Many, Some cover.Full)
    ∷ [])
vmids = refl

pub without_a_vmid : Gives2 (λ op kind. covers None (gigabyte kind Leaf tags.None) (scope_of op 0x40000)) (
    (Vmalle1is, Ttbr0, Some cover.None)
    ∷ (Vmalle1is, Ttbr1, Some cover.None)
    ∷ (Vmalle1is, S2, Some cover.None)
    ∷ (Ipas2e1is, S2, Some cover.None)
    ∷ (Alle1is, S2, Some cover.Full)
    ∷ (Vaae1is, Ttbr0, Some cover.Full)
    ∷ [])
without_a_vmid = refl

-- the leaf of a page of a kernel
abbrev leaf : Kind → ℕ → Bool → TagSet → PlaceView
leaf kind page global tags = record {
  kind = kind;
  region = record { lo = page; hi = page };
  level = 3;
  table = false;
  global = global;
  childless = false;
  tags = tags;
}

abbrev covers_upper : TlbiOp → ℕ → Bool → Option Cover
covers_upper op xt global = covers (Some 0) (leaf Ttbr1 0xffff8000000 global (tags.One tag.Ttbr1)) (scope_of op xt)

-- The leaf is global or not.
pub upper_places : Gives3 covers_upper (
    (Vae1is, 0x70ffff8000000, true, Some cover.Full)
    ∷ (Vae1is, 0x70ffff8000001, true, Some cover.None)
    ∷ (Vae1is, 0x70ffff8000000, false, Some cover.None)
    ∷ (Vaae1is, 0xffff8000000, true, Some cover.Full)
    ∷ (Vaae1is, 0xffff8000000, false, Some cover.Full)
    ∷ (Vmalle1is, 0, true, Some cover.Full)
    ∷ (Vmalle1is, 0, false, Some cover.Full)
    ∷ (Aside1is, 0x7000000000000, false, Some cover.None)
    ∷ [])
upper_places = refl

abbrev asid_7 : TagSet
asid_7 = tags.One (tag.Asid 7)

-- The tags that the root of the leaf holds.
pub lower_places : Gives3 (λ op xt held. covers (Some 0) (leaf Ttbr0 0x40000 false held) (scope_of op xt)) (
    (Vae1is, 0x7000000040000, asid_7, Some cover.Full)
    ∷ (Vae1is, 0x5000000040000, asid_7, Some cover.None)
    ∷ (Vae1is, 0x7000000040000, tags.None, Some cover.Full)
    ∷ (Vae1is, 0x7000000040000, tags.Many, Some cover.None)
    ∷ (Vaae1is, 0x40000, asid_7, Some cover.Full)
    ∷ (Vmalle1is, 0, tags.Many, Some cover.Full)
    ∷ (Aside1is, 0x7000000000000, asid_7, Some cover.Full)
    ∷ (Aside1is, 0x5000000000000, asid_7, Some cover.None)
    ∷ (Aside1is, 0x7000000000000, tags.None, Some cover.Full)
    ∷ (Aside1is, 0x7000000000000, tags.Many, Some cover.None)
    ∷ [])
lower_places = refl
