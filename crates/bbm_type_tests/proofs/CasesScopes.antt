-- Worked cases: what the operands of TLBIs name.
use Rattle.bbm_type_tests.proofs.Common.{ℕ, Bool, [], ◌∷◌, true, false, Option, Some, None, Result, Ok, Err, refl}
use Rattle.bbm_type_tests.proofs.Common.{Extent, Hyp, Kernel, TlbiOp, Alle1, Alle2, Vae2is, Vale2is, Vmalle1, Vmalle1is}
use Rattle.bbm_type_tests.proofs.Common.{Ipas2e1is, Ipas2le1is, Vae1is, Vaae1is, Aside1is, Rvae2is, Rvale2is}
use Rattle.bbm_type_tests.proofs.Common.{Ripas2e1is, Scope, BadOperand, scope_of}
use Rattle.bbm_regimes.specs.declared.regime.AsidFrom.TheVariants as from
use Rattle.bbm_range.specs.declared.Range.{Range}
use Rattle.bbm_range.specs.declared.BadRange.{BadRange}
use Rattle.bbm_range.specs.declared.BadRange.TheVariants.{Granule, Unaligned}
use Rattle.bbm_range.specs.RangePages.{range_of}
use Rattle.bbm_regimes.specs.Extent.{hint_of}
use Rattle.bbm_tlbi_scope.specs.declared.op.TlbiOp.TheVariants.{Aside1, Rvae2, Rvale2, Ripas2e1, Ripas2le1, Ripas2le1is}
use Rattle.bbm_tlbi_scope.specs.declared.op.TlbiOp.TheVariants.{Rvae1, Rvae1is, Rvale1, Rvale1is, Rvaae1, Rvaae1is}
use Rattle.bbm_tlbi_scope.specs.declared.op.TlbiOp.TheVariants.{Rvaale1, Rvaale1is}
use Rattle.bbm_tlbi_scope.specs.declared.scope.Family.{Family}
use Rattle.bbm_tlbi_scope.specs.declared.scope.Family.TheVariants.{El2Va, Ipa, Va, VaAll}
use Rattle.bbm_tlbi_scope.specs.declared.scope.BadOperand.TheVariants.{NonCanonical, TtlGranule, RangeGranule}
use Rattle.bbm_tlbi_scope.specs.declared.scope.BadOperand.TheVariants.{RangeUnaligned}
use Rattle.bbm_tlbi_scope.specs.Operations.{has_operand, scoped_by_vmid, of_world}
use Rattle.bbm_type_tests.proofs.Rows.{Gives, Gives2}

abbrev of_scope : {A : Type 0} → (Scope → A) → Result Scope BadOperand → Result A BadOperand
of_scope f (Ok scope) = Ok (f scope)
of_scope f (Err why) = Err why

-- the pages and the level hint of an operand
abbrev named : TlbiOp → ℕ → Result (Option Extent × Option ℕ) BadOperand
named op xt = of_scope (λ scope. (scope.interval, scope.level)) (scope_of op xt)

abbrev pages : ℕ → ℕ → Option Extent
pages lo hi = Some (record { lo = lo; hi = hi })

abbrev page : ℕ → Option Extent
page n = pages n n

pub level_hints : Gives2 named (
    (Vae2is, 0x40000, Ok (page 0x40000, None))
    ∷ (Vae2is, 0x300000040000, Ok (page 0x40000, None))
    ∷ (Vae2is, 0x400000040000, Ok (page 0x40000, None))
    ∷ (Vae2is, 0x500000040000, Ok (page 0x40000, Some 1))
    ∷ (Vae2is, 0x600000040000, Ok (page 0x40000, Some 2))
    ∷ (Vale2is, 0x700000040000, Ok (page 0x40000, Some 3))
    ∷ (Ipas2e1is, 0x600000040e00, Ok (page 0x40e00, Some 2))
    ∷ (Ipas2le1is, 0x700000000009, Ok (page 9, Some 3))
    ∷ (Ipas2e1is, 0x0, Ok (page 0, None))
    ∷ (Vae2is, 0x800000000000, Err TtlGranule)
    ∷ (Vae2is, 0xc00000040000, Err TtlGranule)
    ∷ [])
level_hints = refl

pub canonical_pages : Gives2 named (
    (Vae2is, 0xfffffffff, Ok (page 0xfffffffff, None))
    ∷ (Vae2is, 0x1000000000, Err NonCanonical)
    ∷ (Vae2is, 0xff000040000, Err NonCanonical)
    ∷ (Vae2is, 0x801000000000, Err NonCanonical)
    ∷ (Ipas2e1is, 0x1000000000, Err NonCanonical)
    ∷ (Ipas2e1is, 0xff000040000, Err NonCanonical)
    ∷ (Vae1is, 0xffff8000000, Ok (page 0xffff8000000, None))
    ∷ (Vae1is, 0xfff08000000, Ok (page 0xfff08000000, None))
    ∷ (Vae1is, 0xf7f08000000, Err NonCanonical)
    ∷ (Vaae1is, 0xfffffffffff, Ok (page 0xfffffffffff, None))
    ∷ (Vaae1is, 0x1000000000, Err NonCanonical)
    ∷ (Vmalle1is, 0xffffffffffffffff, Ok (None, None))
    ∷ (Aside1is, 0xffffffffffffffff, Ok (None, None))
    ∷ [])
canonical_pages = refl

abbrev asid : TlbiOp → ℕ → Result (Option ℕ) BadOperand
asid op xt = of_scope (λ scope. scope.asid) (scope_of op xt)

pub asids : Gives2 asid (
    (Aside1is, 0x5000000000000, Ok (Some 5))
    ∷ (Vae1is, 0x70ffff8000000, Ok (Some 7))
    ∷ (Vaae1is, 0x7000000040000, Ok None)
    ∷ (Vae2is, 0x7000000040000, Ok None)
    ∷ (Vmalle1is, 0xffffffffffffffff, Ok None)
    ∷ (Rvae1is, 0x7718000040000, Ok (Some 7))
    ∷ (Rvale1, 0x7718000040000, Ok (Some 7))
    ∷ (Rvaae1is, 0x7718000040000, Ok None)
    ∷ (Rvae2is, 0x7718000040000, Ok None)
    ∷ [])
asids = refl

-- the first page, the last one and the level of the hint of an operand for a range
abbrev range : ℕ → ℕ → ℕ → Result Range BadRange
range lo hi level = Ok (record { lo = lo; hi = hi; level = hint_of level })

pub ranges : Gives range_of (
    -- the units of SCALE, and NUM
    (0x400000040000, range 0x40000 0x40001 0)
    ∷ (0x500000040000, range 0x40000 0x4003f 0)
    ∷ (0x600000040000, range 0x40000 0x407ff 0)
    ∷ (0x700000040000, range 0x40000 0x4ffff 0)
    ∷ (0x710000040000, range 0x40000 0x6ffff 0)
    ∷ (0x718000040000, range 0x40000 0x7ffff 0)
    ∷ (0xffff718000040000, range 0x40000 0x7ffff 0)
    -- level hints and granules
    ∷ (0x718000040001, range 0x40001 0x80000 0)
    ∷ (0x71a000040000, range 0x40000 0x7ffff 1)
    ∷ (0x71a000040001, Err Unaligned)
    ∷ (0x71a000020000, Err Unaligned)
    ∷ (0x71c000040200, range 0x40200 0x801ff 2)
    ∷ (0x71c000040100, Err Unaligned)
    ∷ (0x71e000040201, range 0x40201 0x80200 3)
    ∷ (0x318000040000, Err Granule)
    ∷ (0x81a000040001, Err Granule)
    ∷ (0xc18000040000, Err Granule)
    -- the ends of the page numbers
    ∷ (0x400fffffffff, range 0xfffffffff 0x1000000000 0)
    ∷ (0x401000000000, range 0xff000000000 0xff000000001 0)
    ∷ (0x401ffffffffe, range 0xffffffffffe 0xfffffffffff 0)
    ∷ (0x401fffffffff, range 0xfffffffffff 0xfffffffffff 0)
    ∷ [])
ranges = refl

pub range_scopes : Gives2 named (
    (Rvae2, 0x718000040000, Ok (pages 0x40000 0x7ffff, None))
    ∷ (Ripas2le1is, 0x71a000040000, Ok (pages 0x40000 0x7ffff, Some 1))
    ∷ (Rvale1, 0x71c000040000, Ok (pages 0x40000 0x7ffff, Some 2))
    ∷ (Rvaae1is, 0x71e000040000, Ok (pages 0x40000 0x7ffff, Some 3))
    ∷ (Rvae2is, 0x400fffffffff, Ok (pages 0xfffffffff 0x1000000000, None))
    ∷ (Rvae2is, 0x401000000000, Err NonCanonical)
    ∷ (Ripas2e1is, 0x401000000000, Err NonCanonical)
    ∷ (Rvae1is, 0x401000000000, Ok (pages 0xff000000000 0xff000000001, None))
    ∷ (Rvaae1is, 0x401000000000, Ok (pages 0xff000000000 0xff000000001, None))
    ∷ (Rvae1is, 0x401fffffffff, Ok (page 0xfffffffffff, None))
    ∷ (Rvaale1is, 0x4f9fffffffff, Ok (page 0xfffffffffff, None))
    ∷ (Rvae2is, 0x318000040000, Err RangeGranule)
    ∷ (Rvae1is, 0x81a000040001, Err RangeGranule)
    ∷ (Rvae2is, 0x71a000040001, Err RangeUnaligned)
    ∷ (Ripas2e1is, 0x71c000040100, Err RangeUnaligned)
    ∷ (Rvae1is, 0x403000000001, Err RangeUnaligned)
    ∷ (Rvae2is, 0x403000000001, Err NonCanonical)
    ∷ (Ripas2e1is, 0x1000000000, Err NonCanonical)
    ∷ [])
range_scopes = refl

-- the family, and whether the scope is for the last level alone and broadcast
abbrev word : TlbiOp → Result (Family × Bool × Bool) BadOperand
word op = of_scope (λ scope. (scope.family, scope.last_only, scope.broadcast)) (scope_of op 0x718000040000)

pub range_words : Gives word (
    (Rvae2, Ok (El2Va, false, false))
    ∷ (Rvae2is, Ok (El2Va, false, true))
    ∷ (Rvale2, Ok (El2Va, true, false))
    ∷ (Rvale2is, Ok (El2Va, true, true))
    ∷ (Ripas2e1, Ok (Ipa, false, false))
    ∷ (Ripas2e1is, Ok (Ipa, false, true))
    ∷ (Ripas2le1, Ok (Ipa, true, false))
    ∷ (Ripas2le1is, Ok (Ipa, true, true))
    ∷ (Rvae1, Ok (Va, false, false))
    ∷ (Rvae1is, Ok (Va, false, true))
    ∷ (Rvale1, Ok (Va, true, false))
    ∷ (Rvale1is, Ok (Va, true, true))
    ∷ (Rvaae1, Ok (VaAll, false, false))
    ∷ (Rvaae1is, Ok (VaAll, false, true))
    ∷ (Rvaale1, Ok (VaAll, true, false))
    ∷ (Rvaale1is, Ok (VaAll, true, true))
    ∷ [])
range_words = refl

-- whether an operation has an operand, is for one VMID, is of a hypervisor and is of a kernel
abbrev about : TlbiOp → Bool × Bool × Bool × Bool
about op = (
  has_operand op,
  scoped_by_vmid op,
  of_world (Hyp (record { el2_start = 1; s2_start = 1; s2_pages = 1 })) op,
  of_world (Kernel (record { start0 = 1; start1 = 1; asid_from = from.Ttbr0 })) op,
)

pub words : Gives about (
    (Alle2, (false, false, true, false))
    ∷ (Alle1, (false, false, true, false))
    ∷ (Vmalle1, (false, true, true, true))
    ∷ (Aside1, (true, false, false, true))
    ∷ (Ripas2e1is, (true, true, true, false))
    ∷ (Rvaae1, (true, false, false, true))
    ∷ [])
words = refl
