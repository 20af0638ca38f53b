-- Which places a TLBI covers, and how far.
-- Source: project's own choice, where no other is named.
use Rattle.std.specs.Prelude.{ℕ, Bool, true, false, Option, Some, None, is_none, not, ◌&&◌, if◌then◌else◌}
use Rattle.bbm_regimes.specs.declared.regime.Kind.{Kind}
use Rattle.bbm_regimes.specs.declared.regime.Kind.TheVariants.{El2, S2, Ttbr0, Ttbr1}
use Rattle.bbm_regimes.specs.declared.regime.Tag.TheVariants.{Vmid, Asid as AsidTag}
use Rattle.bbm_tlbi_scope.specs.declared.scope.Family.{Family}
use Rattle.bbm_tlbi_scope.specs.declared.scope.Family.TheVariants.{El2All, El2Va, E1All, VmAll1, VmAll12, Ipa, Va}
use Rattle.bbm_tlbi_scope.specs.declared.scope.Family.TheVariants.{VaAll, Asid}
use Rattle.bbm_tlbi_scope.specs.declared.scope.Scope.{Scope}
use Rattle.bbm_tlbi_scope.specs.declared.entry.PlaceView.{PlaceView}
use Rattle.bbm_tlbi_scope.specs.declared.entry.TagSet.{TagSet}
use Rattle.bbm_tlbi_scope.specs.declared.entry.TagSet.TheVariants.{None as NoTag, One}
use Rattle.bbm_tlbi_scope.specs.declared.entry.Cover.{Cover}
use Rattle.bbm_tlbi_scope.specs.declared.entry.Cover.TheVariants.{None as NoCover, Half, Second, Full}
use Rattle.bbm_tlbi_scope.specs.Numbers.{is_number, lacks_vmid, hint_allows, names_some, names_all}

-- whether a scope fits a held leaf
abbrev pub fits_leaf : Scope → PlaceView → Bool
fits_leaf s v = names_some s.interval v.region && hint_allows s.level v.level

-- Whether a scope fits a held table. Below a table that isn't childless the TLB may keep entries for each
-- page of its region; so the scope has to name them all.
abbrev pub fits_table : Scope → PlaceView → Bool
fits_table s v =
    not s.last_only && is_none s.level
    && (if v.childless then names_some s.interval v.region else names_all s.interval v.region)

-- whether the address of a scope fits a place that holds a value
abbrev pub fits_place : Scope → PlaceView → Bool
fits_place s v = if v.table then fits_table s v else fits_leaf s v

-- whether the VMID of the issuer is the only one under which a TLB may keep what was read through the root
abbrev pub vmid_matches : Option ℕ → TagSet → Bool
vmid_matches None tags = false
vmid_matches (Some vmid) NoTag = true
vmid_matches (Some vmid) (One (Vmid held)) = is_number (Some vmid) held
vmid_matches (Some vmid) _ = false

-- the same of the ASID of the operand
abbrev pub asid_matches : Option ℕ → TagSet → Bool
asid_matches None tags = false
asid_matches (Some asid) NoTag = true
asid_matches (Some asid) (One (AsidTag held)) = is_number (Some asid) held
asid_matches (Some asid) _ = false

-- this cover where the test holds, and else none
abbrev pub where_fits : Cover → Bool → Cover
where_fits cover fits = if fits then cover else NoCover

-- The table of the places that a TLBI covers. What isn't in it is not covered. Stage 2 takes two
-- steps: a TLBI for an intermediate physical address takes no entry that combines the stages, and one for
-- all stage 1 entries of the VMID takes those.
-- Source: Arm ARM (DDI 0487), "TLB maintenance instructions", the entries to which each operation applies;
-- the grades of cover are the project's own choice. Here `fits` tells whether the address of the scope fits.
abbrev pub cover_by : Kind → Family → Bool → Scope → Option ℕ → PlaceView → Cover
cover_by El2 El2All fits s vmid v = Full
cover_by El2 El2Va fits s vmid v = where_fits Full fits
cover_by S2 E1All fits s vmid v = Full
cover_by S2 VmAll12 fits s vmid v = where_fits Full (vmid_matches vmid v.tags)
cover_by S2 Ipa fits s vmid v = where_fits Half (fits && vmid_matches vmid v.tags)
cover_by S2 VmAll1 fits s vmid v = where_fits Second (vmid_matches vmid v.tags)
cover_by Ttbr0 VmAll1 fits s vmid v = Full
cover_by Ttbr0 VaAll fits s vmid v = where_fits Full fits
cover_by Ttbr0 Va fits s vmid v = where_fits Full (fits && asid_matches s.asid v.tags)
cover_by Ttbr0 Asid fits s vmid v = where_fits Full (asid_matches s.asid v.tags)
cover_by Ttbr1 VmAll1 fits s vmid v = Full
cover_by Ttbr1 VaAll fits s vmid v = where_fits Full fits
cover_by Ttbr1 Va fits s vmid v = where_fits Full (fits && (not v.table && v.global))
cover_by _ _ fits s vmid v = NoCover

-- How far a TLBI of this scope, under this VMID, covers the place. Where it is for one VMID alone and none is
-- defined, it covers nothing: which entries it takes isn't known.
abbrev pub cover_of : Scope → Option ℕ → PlaceView → Cover
cover_of s vmid v =
    if lacks_vmid s.vmid_scoped vmid then NoCover else cover_by v.kind s.family (fits_place s v) s vmid v

-- the place as one sees it of whose table nothing is held below
abbrev pub at_end : PlaceView → PlaceView
at_end v = record v { childless = true }

-- How far a TLBI of this scope, under this VMID, covers what ends at the place: its top cover. It is its cover where a
-- held table counts as childless: the interval of the scope has to meet the region of the table, and not to name all of
-- it. A scope for the last level alone, or with a level hint, covers nothing that ends in a table.
abbrev pub top_of : Scope → Option ℕ → PlaceView → Cover
top_of s vmid v = cover_of s vmid (at_end v)
