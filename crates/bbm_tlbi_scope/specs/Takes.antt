-- Which TLB entries a TLBI takes.
use Rattle.std.specs.Prelude.{ℕ, Bool, true, false, Option, is_none, not, ◌&&◌, ◌||◌, if◌then◌else◌}
use Rattle.bbm_tlbi_scope.specs.declared.scope.Family.{Family}
use Rattle.bbm_tlbi_scope.specs.declared.scope.Family.TheVariants.{El2All, El2Va, E1All, VmAll1, VmAll12, Ipa, Va}
use Rattle.bbm_tlbi_scope.specs.declared.scope.Family.TheVariants.{VaAll, Asid}
use Rattle.bbm_tlbi_scope.specs.declared.scope.Scope.{Scope}
use Rattle.bbm_tlbi_scope.specs.declared.entry.EntryKind.{EntryKind}
use Rattle.bbm_tlbi_scope.specs.declared.entry.EntryKind.TheVariants.{El2, Stage2, Combined, El1}
use Rattle.bbm_tlbi_scope.specs.declared.entry.EntryHead.{EntryHead}
use Rattle.bbm_tlbi_scope.specs.Numbers.{is_number, lacks_vmid, hint_allows, names_some}

-- Whether the address of a scope fits an entry. An entry that ends in a table is fitted by no scope for the
-- last level alone, and by none with a level hint; the latter is the project's own choice.
abbrev pub fits_entry : Scope → EntryHead → Bool
fits_entry s e =
    names_some s.interval e.region
    && (if e.last then hint_allows s.level e.level else (not s.last_only && is_none s.level))

-- whether the entry ends in a leaf for every ASID
abbrev pub is_global_leaf : EntryHead → Bool
is_global_leaf e = e.last && e.global

-- The table of the entries that a TLBI takes. What isn't in it is not taken.
-- Source: Arm ARM (DDI 0487), "TLB maintenance instructions", the entries to which each operation applies.
-- Here `fits` tells whether the address of the scope fits.
abbrev pub taken_by : EntryKind → Family → Bool → Scope → Option ℕ → EntryHead → Bool
taken_by El2 El2All fits s vmid e = true
taken_by El2 El2Va fits s vmid e = fits
taken_by Stage2 E1All fits s vmid e = true
taken_by Stage2 VmAll12 fits s vmid e = is_number vmid e.vmid
taken_by Stage2 Ipa fits s vmid e = is_number vmid e.vmid && fits
taken_by Combined E1All fits s vmid e = true
taken_by Combined VmAll12 fits s vmid e = is_number vmid e.vmid
taken_by Combined VmAll1 fits s vmid e = is_number vmid e.vmid
taken_by El1 VmAll1 fits s vmid e = true
taken_by El1 VaAll fits s vmid e = fits
taken_by El1 Va fits s vmid e = fits && (is_number s.asid e.asid || is_global_leaf e)
taken_by El1 Asid fits s vmid e = is_number s.asid e.asid && not (is_global_leaf e)
taken_by _ _ fits s vmid e = false

-- Whether a TLBI of this scope, under this VMID, takes the entry. Where it is for one VMID alone and none is
-- defined, it takes nothing. Source: project's own choice.
abbrev pub taken : Scope → Option ℕ → EntryHead → Bool
taken s vmid e = not (lacks_vmid s.vmid_scoped vmid) && taken_by e.kind s.family (fits_entry s e) s vmid e
