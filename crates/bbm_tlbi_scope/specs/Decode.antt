-- The scope of a TLBI operation with its operand.
-- Source: project's own choice, where no other is named.
use Rattle.std.specs.Prelude.{ℕ, Bool, true, not, Option, Some, None, Result, Ok, Err, ◌==◌, ◌||◌, if◌then◌else◌}
use Rattle.bbm_regimes.specs.Extent.{Extent}
use Rattle.bbm_range.specs.declared.Range.{Range}
use Rattle.bbm_range.specs.declared.BadRange.{BadRange}
use Rattle.bbm_range.specs.declared.BadRange.TheVariants.{Granule, Unaligned}
use Rattle.bbm_range.specs.RangePages.{is_upper, range_of}
use Rattle.bbm_tlbi_scope.specs.declared.op.TlbiOp.{TlbiOp}
use Rattle.bbm_tlbi_scope.specs.declared.scope.Family.{Family}
use Rattle.bbm_tlbi_scope.specs.declared.scope.Family.TheVariants.{El2Va, Ipa, Va, VaAll}
use Rattle.bbm_tlbi_scope.specs.declared.scope.Scope.{Scope}
use Rattle.bbm_tlbi_scope.specs.declared.scope.BadOperand.{BadOperand}
use Rattle.bbm_tlbi_scope.specs.declared.scope.BadOperand.TheVariants.{NonCanonical, TtlGranule, RangeGranule}
use Rattle.bbm_tlbi_scope.specs.declared.scope.BadOperand.TheVariants.{RangeUnaligned}
use Rattle.bbm_tlbi_scope.specs.Operations.{Operation, operation, by_vmid, has_page, has_asid}
use Rattle.bbm_tlbi_scope.specs.Operand.{asid_field, ttl_granule, va_page, ipa_page, top_bits, level_hint}

-- Whether the page number lies in the address range of the regime: 48 bits of input address at EL2 and at
-- stage 2; a lower and an upper range of 48 bits each at stage 1 of EL1&0, where the bits above are all
-- zeros or all ones.
abbrev pub canonical : Family → ℕ → Bool
canonical El2Va xt = top_bits xt == 0
canonical Va xt = top_bits xt == 0 || top_bits xt == 255
canonical VaAll xt = top_bits xt == 0 || top_bits xt == 255
canonical Ipa xt = top_bits xt == 0
canonical _ xt = true

-- Whether the granule of the level hint is none or 4 KiB.
abbrev pub granule_known : Family → ℕ → Bool
granule_known family xt = if has_page family then (ttl_granule xt == 0 || ttl_granule xt == 1) else true

-- the page number of an address operand
abbrev pub page_field : Family → ℕ → ℕ
page_field Ipa xt = ipa_page xt
page_field _ xt = va_page xt

-- the interval of one page
abbrev pub one_page : ℕ → Extent
one_page n = record { lo = n; hi = n }

-- the pages of the operand: its one page, or None where it has no page number
abbrev pub interval_field : Family → ℕ → Option Extent
interval_field family xt = if has_page family then Some (one_page (page_field family xt)) else None

-- its level hint, None where it has no page number
abbrev pub hint_field : Family → ℕ → Option ℕ
hint_field family xt = if has_page family then level_hint xt else None

-- the scope of an operand that names these pages with this level hint
abbrev pub decoded : Operation → ℕ → Option Extent → Option ℕ → Scope
decoded o xt interval level = record {
  family = o.family;
  asid = if has_asid o.family then Some (asid_field xt) else None;
  vmid_scoped = by_vmid o.family;
  interval = interval;
  last_only = o.last_only;
  level = level;
  broadcast = o.broadcast;
}

-- the scope of an operand for one page, or for none; or what is wrong with it: the page number first, then the
-- level hint
abbrev pub page_scope : Operation → ℕ → Result Scope BadOperand
page_scope o xt =
    if canonical o.family xt
    then (if granule_known o.family xt
    then Ok (decoded o xt (interval_field o.family xt) (hint_field o.family xt)) else Err TtlGranule)
    else Err NonCanonical

-- Whether the pages of a range begin in the address range of the regime: only stage 1 of EL1&0 has an upper
-- range.
abbrev pub range_canonical : Family → ℕ → Bool
range_canonical El2Va xt = not (is_upper xt)
range_canonical Ipa xt = not (is_upper xt)
range_canonical _ xt = true

-- the scope of the pages that were read from an operand for a range, or what is wrong with them
abbrev pub scope_over : Operation → ℕ → Result Range BadRange → Result Scope BadOperand
scope_over o xt (Ok range) = Ok (decoded o xt (Some (record { lo = range.lo; hi = range.hi })) range.level)
scope_over o xt (Err Granule) = Err RangeGranule
scope_over o xt (Err Unaligned) = Err RangeUnaligned

-- the scope of an operand for a range; or what is wrong with it: the first page number first
abbrev pub range_scope : Operation → ℕ → Result Scope BadOperand
range_scope o xt = if range_canonical o.family xt then scope_over o xt (range_of xt) else Err NonCanonical

-- the scope of an operation with its operand, or what is wrong with the operand
abbrev pub scope_of : TlbiOp → ℕ → Result Scope BadOperand
scope_of op xt = if (operation op).range then range_scope (operation op) xt else page_scope (operation op) xt
