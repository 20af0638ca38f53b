-- Which TLBIs take everything that a TLB keeps under a tag.
use Rattle.std.specs.Prelude.{ℕ, Bool, true, false, Option, not, ◌&&◌}
use Rattle.bbm_regimes.specs.declared.regime.Tag.{Tag}
use Rattle.bbm_regimes.specs.declared.regime.Tag.TheVariants.{El2, Vmid, Asid, Ttbr1}
use Rattle.bbm_tlbi_scope.specs.declared.scope.Family.{Family}
use Rattle.bbm_tlbi_scope.specs.declared.scope.Family.TheVariants.{El2All, E1All, VmAll1, VmAll12, Asid as ByAsid}
use Rattle.bbm_tlbi_scope.specs.declared.scope.Scope.{Scope}
use Rattle.bbm_tlbi_scope.specs.Numbers.{is_number, lacks_vmid}

-- The table of the whole-tag TLBIs.
-- Source: Arm ARM (DDI 0487), "TLB maintenance instructions"; the term is the project's own choice.
abbrev pub whole_tag_by : Tag → Family → Scope → Option ℕ → Bool
whole_tag_by El2 El2All s vmid = true
whole_tag_by (Vmid v) E1All s vmid = true
whole_tag_by (Vmid v) VmAll12 s vmid = is_number vmid v
whole_tag_by (Asid a) VmAll1 s vmid = true
whole_tag_by (Asid a) ByAsid s vmid = is_number s.asid a
whole_tag_by Ttbr1 VmAll1 s vmid = true
whole_tag_by _ _ s vmid = false

-- Whether a TLBI of this scope, under this VMID, takes the whole tag. Where it is for one VMID alone and none is
-- defined, it takes none. Source: project's own choice.
abbrev pub takes_whole_tag : Scope → Option ℕ → Tag → Bool
takes_whole_tag s vmid tag = not (lacks_vmid s.vmid_scoped vmid) && whole_tag_by tag s.family s vmid
