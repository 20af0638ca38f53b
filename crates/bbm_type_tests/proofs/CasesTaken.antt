-- Worked cases: which entries and tags TLBIs take.
use Rattle.bbm_type_tests.proofs.Common.{ℕ, Bool, [], ◌∷◌, true, false, Option, Some, None, Result, Ok, Err, refl}
use Rattle.bbm_type_tests.proofs.Common.{TlbiOp, Alle1, Alle1is, Aside1is, Ipas2e1is, Ripas2e1is, Rvale2is, Vae1is}
use Rattle.bbm_type_tests.proofs.Common.{Vae2is, Vale2is, Vmalle1, Vmalle1is, Vmalls12e1is, Scope, BadOperand, scope_of}
use Rattle.bbm_regimes.specs.declared.regime.Tag.{Tag}
use Rattle.bbm_regimes.specs.declared.regime.Tag.TheVariants as tag
use Rattle.bbm_tlbi_scope.specs.declared.op.TlbiOp.TheVariants.{Vale1is}
use Rattle.bbm_tlbi_scope.specs.declared.entry.EntryKind.{EntryKind}
use Rattle.bbm_tlbi_scope.specs.declared.entry.EntryKind.TheVariants.{El2, Stage2, Combined, El1}
use Rattle.bbm_tlbi_scope.specs.declared.entry.EntryHead.{EntryHead}
use Rattle.bbm_tlbi_scope.specs.Takes.{taken}
use Rattle.bbm_tlbi_scope.specs.ScopeTags.{takes_whole_tag}
use Rattle.bbm_type_tests.proofs.Rows.{Gives3, Gives4}

-- what is said of the scope of an operand, None where it has none
abbrev where_decoded : {A : Type 0} → (Scope → A) → Result Scope BadOperand → Option A
where_decoded f (Ok scope) = Some (f scope)
where_decoded f (Err why) = None

-- whether a TLBI under a VMID takes an entry
abbrev takes : Option ℕ → EntryHead → TlbiOp → ℕ → Option Bool
takes vmid entry op xt = where_decoded (λ scope. taken scope vmid entry) (scope_of op xt)

-- an entry of level 1 for the first gigabyte above 1 GiB, under VMID 5, that ends in a leaf or in a table
abbrev gigabyte : EntryKind → Bool → EntryHead
gigabyte kind last = record {
  kind = kind;
  vmid = 5;
  asid = 0;
  region = record { lo = 0x40000; hi = 0x7ffff };
  last = last;
  level = 1;
  global = false;
}

abbrev under_vmid : TlbiOp → ℕ → Option ℕ → EntryKind → Option Bool
under_vmid op xt vmid kind = takes vmid (gigabyte kind true) op xt

pub vmid_entries : Gives4 under_vmid (
    (Ipas2e1is, 0x40000, Some 5, Stage2, Some true)
    ∷ (Ipas2e1is, 0x40000, Some 6, Stage2, Some false)
    ∷ (Ipas2e1is, 0x40000, None, Stage2, Some false)
    ∷ (Ipas2e1is, 0x40000, Some 5, Combined, Some false)
    ∷ (Ripas2e1is, 0x718000040000, Some 5, Stage2, Some true)
    ∷ (Ripas2e1is, 0x718000040000, Some 5, Combined, Some false)
    ∷ (Vmalle1, 0, Some 5, Combined, Some true)
    ∷ (Vmalle1, 0, Some 6, Combined, Some false)
    ∷ (Vmalle1is, 0, Some 5, Combined, Some true)
    ∷ (Vmalle1is, 0, Some 6, Combined, Some false)
    ∷ (Vmalle1is, 0, Some 5, Stage2, Some false)
    ∷ (Vmalle1is, 0, None, El1, Some false)
    ∷ (Vmalls12e1is, 0, Some 5, Stage2, Some true)
    ∷ (Vmalls12e1is, 0, Some 6, Stage2, Some false)
    ∷ (Vmalls12e1is, 0, Some 5, Combined, Some true)
    ∷ (Vmalls12e1is, 0, Some 6, Combined, Some false)
    ∷ (Vmalls12e1is, 0, None, Combined, Some false)
    ∷ (Alle1is, 0, Some 5, El2, Some false)
    ∷ (Alle1is, 0, None, Combined, Some true)
    ∷ [])
vmid_entries = refl

-- The entry of EL2 ends in a leaf or in a table.
pub el2_entries : Gives3 (λ op xt last. takes None (gigabyte El2 last) op xt) (
    (Vae2is, 0x40000, true, Some true)
    ∷ (Vae2is, 0x40000, false, Some true)
    ∷ (Vale2is, 0x40000, true, Some true)
    ∷ (Vale2is, 0x40000, false, Some false)
    ∷ (Vae2is, 0x600000040000, true, Some false)
    ∷ (Vae2is, 0x500000040000, false, Some false)
    ∷ (Rvale2is, 0x400000080000, true, Some false)
    ∷ (Rvale2is, 0x40000007ffff, true, Some true)
    ∷ (Rvale2is, 0x40000007ffff, false, Some false)
    ∷ [])
el2_entries = refl

-- an entry of ASID 7 that ends at level 2, in a leaf for that ASID alone or for each, or in a table
abbrev of_kernel : Bool → Bool → EntryHead
of_kernel last global = record {
  kind = El1;
  vmid = 0;
  asid = 7;
  region = record { lo = 0x40000; hi = 0x401ff };
  last = last;
  level = 2;
  global = global;
}

-- An operation with its operand; whether the entry ends in a leaf, and whether that is global.
pub kernel_entries : Gives4 (λ op xt last global. takes (Some 0) (of_kernel last global) op xt) (
    (Aside1is, 0x7000000000000, true, false, Some true)
    ∷ (Aside1is, 0x5000000000000, true, false, Some false)
    ∷ (Vale1is, 0x7000000040000, true, false, Some true)
    ∷ (Vale1is, 0x7000000040000, false, false, Some false)
    ∷ (Vae1is, 0x7000000040000, false, false, Some true)
    ∷ (Vae1is, 0x5000000040000, true, false, Some false)
    ∷ (Vmalle1, 0, true, false, Some true)
    ∷ (Vmalle1is, 0, false, false, Some true)
    ∷ (Vmalls12e1is, 0, true, false, Some false)
    ∷ (Aside1is, 0x7000000000000, false, false, Some true)
    ∷ (Aside1is, 0x7000000000000, true, true, Some false)
    ∷ (Aside1is, 0x5000000000000, true, true, Some false)
    ∷ (Vae1is, 0x7000000040000, true, true, Some true)
    ∷ (Vae1is, 0x5000000040000, true, true, Some true)
    ∷ (Vae1is, 0x5000000040200, true, true, Some false)
    ∷ (Vale1is, 0x5000000040000, true, true, Some true)
    ∷ (Vmalle1, 0, true, true, Some true)
    ∷ (Vmalle1is, 0, true, true, Some true)
    ∷ (Vmalls12e1is, 0, true, true, Some false)
    ∷ [])
kernel_entries = refl

-- whether a TLBI, of ASID 5 where it has one, takes the whole of a tag
abbrev takes_all : TlbiOp → Option ℕ → Tag → Option Bool
takes_all op vmid tag = where_decoded (λ scope. takes_whole_tag scope vmid tag) (scope_of op 0x5000000000000)

pub whole_tags : Gives3 takes_all (
    (Aside1is, None, tag.Asid 5, Some true)
    ∷ (Aside1is, None, tag.Asid 6, Some false)
    ∷ (Vmalle1, Some 0, tag.Asid 6, Some true)
    ∷ (Vmalle1, Some 0, tag.Ttbr1, Some true)
    ∷ (Vmalle1, None, tag.Ttbr1, Some false)
    ∷ (Vmalle1, Some 5, tag.Vmid 5, Some false)
    ∷ (Vmalls12e1is, Some 5, tag.Vmid 5, Some true)
    ∷ (Vmalls12e1is, Some 5, tag.Vmid 6, Some false)
    ∷ (Alle1, None, tag.Vmid 6, Some true)
    ∷ (Alle1, None, tag.El2, Some false)
    ∷ [])
whole_tags = refl
