-- The root registers of a PE: which of their values may still be in use. A history is newest first.
-- Source: project's own choice, but where another is named.
use Rattle.std.specs.Prelude.{ℕ, Bool, ◌&&◌, ◌==◌, List, [], ◌∷◌, Option, Some, None, is_none, map}
use Rattle.std.specs.Prelude.{take, if◌then◌else◌}
use Rattle.std.specs.Result.{result_ok}
pub use Rattle.bbm_regimes.specs.Registers.{base_of, tag_number}
pub use Rattle.bbm_regimes.specs.SameRegister.{kind_of_reg, same_reg}
use Rattle.bbm_tlbi_scope.specs.Operations.{scoped_by_vmid}
use Rattle.bbm_rules.specs.Prelude.{Reg, VttbrEl2, Ttbr0El1, Ttbr1El1, World, Hyp, Kernel, TlbiOp, Scope, scope_of}
use Rattle.bbm_rules.specs.Prelude.{Heading, Event, Isb, Msr}
use Rattle.bbm_rules.specs.Lists.{one_number}

-- Readable values of a register of p, newest first: those that it had, the first 0 among them, and that no later
-- write of the register by p replaced before an ISB of p. An ISB of p leaves the newest alone.
-- Source: Arm ARM (DDI 0487), "Context synchronization event".
abbrev pub register_values : List Event → ℕ → Reg → List ℕ
register_values [] p reg = 0 ∷ []
register_values (Msr pe r value ∷ h) p reg =
    if pe == p && same_reg r reg then value ∷ register_values h p reg else register_values h p reg
register_values (Isb pe ∷ h) p reg = if pe == p then take 1 (register_values h p reg) else register_values h p reg
register_values (_ ∷ h) p reg = register_values h p reg

-- the value of a register of p: the last that p wrote, else 0
abbrev pub register_value : List Event → ℕ → Reg → ℕ
register_value [] p reg = 0
register_value (Msr pe r value ∷ h) p reg = if pe == p && same_reg r reg then value else register_value h p reg
register_value (_ ∷ h) p reg = register_value h p reg

-- Standing: the values of TTBR0_EL1 and of TTBR1_EL1 that p has at one moment.
pub record Standing : Type 0 where
  pub first : ℕ
  pub second : ℕ

abbrev pub standing_of : List Event → ℕ → Standing
standing_of h p = record { first = register_value h p Ttbr0El1; second = register_value h p Ttbr1El1 }

-- Readable standings of p, newest first: that at the start, and that after each register write of p, which no later
-- register write of p replaced before an ISB of p. An ISB of p leaves the newest alone. Source: project's own choice.
abbrev pub standings : List Event → ℕ → List Standing
standings [] p = standing_of [] p ∷ []
standings (Msr pe reg value ∷ h) p =
    if pe == p then standing_of (Msr pe reg value ∷ h) p ∷ standings h p else standings h p
standings (Isb pe ∷ h) p = if pe == p then take 1 (standings h p) else standings h p
standings (_ ∷ h) p = standings h p

-- The VMID under which a PE issues its TLBIs: the one VMID of the values of VTTBR_EL2 that it may still use, None
-- where there are several. In the Kernel world 0 stands for the one VMID, which isn't logged.
abbrev pub vmid_in : World → List Event → ℕ → Option ℕ
vmid_in (Hyp world) h p = one_number (map tag_number (register_values h p VttbrEl2))
vmid_in (Kernel world) h p = Some 0

abbrev pub vmid_of : Heading → List Event → ℕ → Option ℕ
vmid_of heading h p = vmid_in heading.world h p

-- whether the operation needs the VMID of its issuer, which may still use several
abbrev pub lacks_vmid : Heading → List Event → ℕ → TlbiOp → Bool
lacks_vmid heading h pe op = scoped_by_vmid op && is_none (vmid_of heading h pe)

-- What a TLBI names at its issue: its scope, or None where its operand can't be decoded, or where it needs a VMID and
-- there are several.
abbrev pub named_scope : Heading → List Event → ℕ → TlbiOp → ℕ → Option Scope
named_scope heading h pe op xt = if lacks_vmid heading h pe op then None else result_ok (scope_of op xt)
