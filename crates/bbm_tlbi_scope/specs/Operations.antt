-- The TLBI operations: the family of each, whether it takes last-level entries alone, whether it is
-- broadcast, whether its operand gives a range of pages, and the worlds that have it.
-- Source: Arm ARM (DDI 0487), "TLB maintenance instructions".
use Rattle.std.specs.Prelude.{Bool, true, false, ◌||◌}
use Rattle.bbm_regimes.specs.declared.regime.World.{World}
use Rattle.bbm_regimes.specs.declared.regime.World.TheVariants.{Hyp, Kernel}
use Rattle.bbm_tlbi_scope.specs.declared.op.TlbiOp.{TlbiOp}
use Rattle.bbm_tlbi_scope.specs.declared.op.TlbiOp.TheVariants.{Alle2, Alle2is, Vae2, Vae2is, Vale2, Vale2is, Alle1}
use Rattle.bbm_tlbi_scope.specs.declared.op.TlbiOp.TheVariants.{Alle1is, Vmalle1, Vmalle1is, Vmalls12e1, Vmalls12e1is}
use Rattle.bbm_tlbi_scope.specs.declared.op.TlbiOp.TheVariants.{Ipas2e1, Ipas2e1is, Ipas2le1, Ipas2le1is, Vae1, Vae1is}
use Rattle.bbm_tlbi_scope.specs.declared.op.TlbiOp.TheVariants.{Vale1, Vale1is, Vaae1, Vaae1is, Vaale1, Vaale1is}
use Rattle.bbm_tlbi_scope.specs.declared.op.TlbiOp.TheVariants.{Aside1, Aside1is, Rvae2, Rvae2is, Rvale2, Rvale2is}
use Rattle.bbm_tlbi_scope.specs.declared.op.TlbiOp.TheVariants.{Ripas2e1, Ripas2e1is, Ripas2le1, Ripas2le1is, Rvae1}
use Rattle.bbm_tlbi_scope.specs.declared.op.TlbiOp.TheVariants.{Rvae1is, Rvale1, Rvale1is, Rvaae1, Rvaae1is, Rvaale1}
use Rattle.bbm_tlbi_scope.specs.declared.op.TlbiOp.TheVariants.{Rvaale1is}
use Rattle.bbm_tlbi_scope.specs.declared.scope.Family.{Family}
use Rattle.bbm_tlbi_scope.specs.declared.scope.Family.TheVariants.{El2All, El2Va, E1All, VmAll1, VmAll12, Ipa, Va}
use Rattle.bbm_tlbi_scope.specs.declared.scope.Family.TheVariants.{VaAll, Asid}

-- what the word of an operation says
pub record Operation : Type 0 where
  pub family : Family
  pub last_only : Bool
  pub broadcast : Bool
  -- whether the operand gives a range of pages, and not one page
  pub range : Bool

-- a row of the table: the family, whether it takes last-level entries alone, and whether it is broadcast
abbrev pub row : Family → Bool → Bool → Operation
row f last is = record { family = f; last_only = last; broadcast = is; range = false }

-- such a row of an operation for a range of pages
abbrev pub range_row : Family → Bool → Bool → Operation
range_row f last is = record (row f last is) { range = true }

-- the table of the operations
abbrev pub operation : TlbiOp → Operation
operation Alle2 = row El2All false false
operation Alle2is = row El2All false true
operation Vae2 = row El2Va false false
operation Vae2is = row El2Va false true
operation Vale2 = row El2Va true false
operation Vale2is = row El2Va true true
operation Alle1 = row E1All false false
operation Alle1is = row E1All false true
operation Vmalle1 = row VmAll1 false false
operation Vmalle1is = row VmAll1 false true
operation Vmalls12e1 = row VmAll12 false false
operation Vmalls12e1is = row VmAll12 false true
operation Ipas2e1 = row Ipa false false
operation Ipas2e1is = row Ipa false true
operation Ipas2le1 = row Ipa true false
operation Ipas2le1is = row Ipa true true
operation Vae1 = row Va false false
operation Vae1is = row Va false true
operation Vale1 = row Va true false
operation Vale1is = row Va true true
operation Vaae1 = row VaAll false false
operation Vaae1is = row VaAll false true
operation Vaale1 = row VaAll true false
operation Vaale1is = row VaAll true true
operation Aside1 = row Asid false false
operation Aside1is = row Asid false true
operation Rvae2 = range_row El2Va false false
operation Rvae2is = range_row El2Va false true
operation Rvale2 = range_row El2Va true false
operation Rvale2is = range_row El2Va true true
operation Ripas2e1 = range_row Ipa false false
operation Ripas2e1is = range_row Ipa false true
operation Ripas2le1 = range_row Ipa true false
operation Ripas2le1is = range_row Ipa true true
operation Rvae1 = range_row Va false false
operation Rvae1is = range_row Va false true
operation Rvale1 = range_row Va true false
operation Rvale1is = range_row Va true true
operation Rvaae1 = range_row VaAll false false
operation Rvaae1is = range_row VaAll false true
operation Rvaale1 = range_row VaAll true false
operation Rvaale1is = range_row VaAll true true

abbrev pub family_of : TlbiOp → Family
family_of op = (operation op).family

-- whether a TLBI of the family takes the entries of one VMID alone, that of its issuer
abbrev pub by_vmid : Family → Bool
by_vmid VmAll1 = true
by_vmid VmAll12 = true
by_vmid Ipa = true
by_vmid _ = false

-- whether the operand has a page number
abbrev pub has_page : Family → Bool
has_page El2Va = true
has_page Ipa = true
has_page Va = true
has_page VaAll = true
has_page _ = false

-- whether the operand has an ASID
abbrev pub has_asid : Family → Bool
has_asid Va = true
has_asid Asid = true
has_asid _ = false

-- whether the operation has an operand: one with a page number, an ASID or both
abbrev pub has_operand : TlbiOp → Bool
has_operand op = has_page (family_of op) || has_asid (family_of op)

-- whether the operation takes the entries of its issuer's VMID alone
abbrev pub scoped_by_vmid : TlbiOp → Bool
scoped_by_vmid op = by_vmid (family_of op)

-- The families that a hypervisor uses, and those that a kernel uses. Source: project's own choice.
abbrev pub of_hyp : Family → Bool
of_hyp El2All = true
of_hyp El2Va = true
of_hyp E1All = true
of_hyp VmAll1 = true
of_hyp VmAll12 = true
of_hyp Ipa = true
of_hyp _ = false

abbrev pub of_kernel : Family → Bool
of_kernel VmAll1 = true
of_kernel Va = true
of_kernel VaAll = true
of_kernel Asid = true
of_kernel _ = false

-- whether the operation is one of the world
abbrev pub of_world : World → TlbiOp → Bool
of_world (Hyp world) op = of_hyp (family_of op)
of_world (Kernel world) op = of_kernel (family_of op)
