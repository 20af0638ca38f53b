-- Tests for equality of kinds, registers and tags; the registers of a world, the kind of the roots that each names, and the
-- tag of a kind.
use Rattle.std.specs.Prelude.{ℕ, Bool, true, false, ◌==◌}
use Rattle.bbm_regimes.specs.declared.regime.Kind.{Kind}
use Rattle.bbm_regimes.specs.declared.regime.Kind.TheVariants as kind
use Rattle.bbm_regimes.specs.declared.regime.Reg.{Reg}
use Rattle.bbm_regimes.specs.declared.regime.Reg.TheVariants.{Ttbr0El2, VttbrEl2, Ttbr0El1, Ttbr1El1}
use Rattle.bbm_regimes.specs.declared.regime.Tag.{Tag}
use Rattle.bbm_regimes.specs.declared.regime.Tag.TheVariants as tag
use Rattle.bbm_regimes.specs.declared.regime.World.{World}
use Rattle.bbm_regimes.specs.declared.regime.World.TheVariants.{Hyp, Kernel}

abbrev pub same_kind : Kind → Kind → Bool
same_kind kind.El2 kind.El2 = true
same_kind kind.S2 kind.S2 = true
same_kind kind.Ttbr0 kind.Ttbr0 = true
same_kind kind.Ttbr1 kind.Ttbr1 = true
same_kind _ _ = false

abbrev pub same_reg : Reg → Reg → Bool
same_reg Ttbr0El2 Ttbr0El2 = true
same_reg VttbrEl2 VttbrEl2 = true
same_reg Ttbr0El1 Ttbr0El1 = true
same_reg Ttbr1El1 Ttbr1El1 = true
same_reg _ _ = false

abbrev pub same_tag : Tag → Tag → Bool
same_tag tag.El2 tag.El2 = true
same_tag (tag.Vmid v) (tag.Vmid w) = v == w
same_tag (tag.Asid a) (tag.Asid b) = a == b
same_tag tag.Ttbr1 tag.Ttbr1 = true
same_tag _ _ = false

abbrev pub kind_of_reg : Reg → Kind
kind_of_reg Ttbr0El2 = kind.El2
kind_of_reg VttbrEl2 = kind.S2
kind_of_reg Ttbr0El1 = kind.Ttbr0
kind_of_reg Ttbr1El1 = kind.Ttbr1

-- the two root registers of a world
abbrev pub first_reg : World → Reg
first_reg (Hyp world) = Ttbr0El2
first_reg (Kernel world) = Ttbr0El1

abbrev pub second_reg : World → Reg
second_reg (Hyp world) = VttbrEl2
second_reg (Kernel world) = Ttbr1El1

-- the tag under which a TLB reads through a root of the kind, with the VMID or ASID
abbrev pub tag_of : Kind → ℕ → Tag
tag_of kind.El2 number = tag.El2
tag_of kind.S2 number = tag.Vmid number
tag_of kind.Ttbr0 number = tag.Asid number
tag_of kind.Ttbr1 number = tag.Ttbr1
