-- The tests for equality of tags, registers and kinds decide equality.
use Rattle.bbm_rules.proofs.Common.{◌≡◌, true, refl, sym, ap, true≢false, eqb-true, Kind}
use Rattle.bbm_lemmas.proofs.Words.{same_number}
use Rattle.bbm_regimes.specs.declared.regime.Kind.TheVariants.{El2 as El2Kind, S2, Ttbr0, Ttbr1 as Ttbr1Kind}
use Rattle.bbm_regimes.specs.declared.regime.Reg.{Reg}
use Rattle.bbm_regimes.specs.declared.regime.Reg.TheVariants.{Ttbr0El2, VttbrEl2, Ttbr0El1, Ttbr1El1}
use Rattle.bbm_regimes.specs.declared.regime.Tag.{Tag}
use Rattle.bbm_regimes.specs.declared.regime.Tag.TheVariants.{El2, Vmid, Asid, Ttbr1}
use Rattle.bbm_regimes.specs.SameRegister.{same_kind, same_reg, same_tag}

pub tag_self : (g : Tag) → same_tag g g ≡ true
tag_self El2 = refl
tag_self (Vmid v) = same_number v
tag_self (Asid a) = same_number a
tag_self Ttbr1 = refl

pub tag_equal : (g k : Tag) → same_tag g k ≡ true → g ≡ k
tag_equal El2 El2 e = refl
tag_equal (Vmid v) (Vmid w) e = ap Vmid (eqb-true v w e)
tag_equal (Asid a) (Asid b) e = ap Asid (eqb-true a b e)
tag_equal Ttbr1 Ttbr1 e = refl
tag_equal g k e = absurd (true≢false (sym e))

pub reg_self : (r : Reg) → same_reg r r ≡ true
reg_self Ttbr0El2 = refl
reg_self VttbrEl2 = refl
reg_self Ttbr0El1 = refl
reg_self Ttbr1El1 = refl

pub reg_equal : (r s : Reg) → same_reg r s ≡ true → r ≡ s
reg_equal Ttbr0El2 Ttbr0El2 e = refl
reg_equal VttbrEl2 VttbrEl2 e = refl
reg_equal Ttbr0El1 Ttbr0El1 e = refl
reg_equal Ttbr1El1 Ttbr1El1 e = refl
reg_equal r s e = absurd (true≢false (sym e))

pub kind_self : (k : Kind) → same_kind k k ≡ true
kind_self El2Kind = refl
kind_self S2 = refl
kind_self Ttbr0 = refl
kind_self Ttbr1Kind = refl

pub kind_equal : (k l : Kind) → same_kind k l ≡ true → k ≡ l
kind_equal El2Kind El2Kind e = refl
kind_equal S2 S2 e = refl
kind_equal Ttbr0 Ttbr0 e = refl
kind_equal Ttbr1Kind Ttbr1Kind e = refl
kind_equal k l e = absurd (true≢false (sym e))
