-- Readable tags once more, as sentences over the readable values of the root registers. `law_readable_tag` says that
-- they say the same. Source: Arm ARM (DDI 0487), "Translation Lookaside Buffers", and TCR_EL1.A1 of "AArch64 System
-- register descriptions"; that the base has to be a declared root is the project's own choice.
use Rattle.std.specs.Prelude.{◌≡◌, ℕ, Bool, true, false, List, Some, Contains}
use Rattle.bbm_rules.specs.Prelude.{AsidFrom, FromTtbr0, FromTtbr1, Reg, Ttbr0El2, VttbrEl2, Ttbr0El1, Ttbr1El1, Tag}
use Rattle.bbm_rules.specs.Prelude.{El2Tag, Vmid, Asid, Ttbr1Tag, World, Hyp, Kernel, Event}
use Rattle.bbm_rules.specs.Lists.{among}
use Rattle.bbm_rules.specs.RegisterValues.{base_of, kind_of_reg, register_values, standings, tag_number}
use Rattle.bbm_rules.specs.Roots.{is_root}

-- A value of a register of p names a root: the value is a readable one, its base is the first page of the root, and
-- that is a declared root of the register's kind.
pub record Names (h : List Event) (p : ℕ) (reg : Reg) (root value : ℕ) : Type 0 where
  pub readable : among value (register_values h p reg) ≡ true
  pub base : base_of value ≡ Some root
  pub declared : is_root h (kind_of_reg reg) root ≡ true

-- the value that has the ASID for a value of TTBR0_EL1: that value itself, or a readable one of TTBR1_EL1; where the
-- registers come into use in order, one that stands beside it in a readable standing
abbrev pub GivesAsid : Bool → AsidFrom → List Event → ℕ → ℕ → ℕ → Type 0
GivesAsid inorder FromTtbr0 h p value from = from ≡ value
GivesAsid true FromTtbr1 h p value from = Contains (standings h p) (record { first = value; second = from })
GivesAsid false FromTtbr1 h p value from = among from (register_values h p Ttbr1El1) ≡ true

-- Readable tag: a value of the tag's register names the root, and the number of the tag is that of the value, or of the
-- value that has the ASID. A tag of the other world is never readable.
abbrev pub ReadsTag : Bool → World → List Event → ℕ → Tag → ℕ → Type 0
ReadsTag inorder (Hyp world) h p El2Tag root = (value : ℕ) × Names h p Ttbr0El2 root value
ReadsTag inorder (Hyp world) h p (Vmid vmid) root =
    (value : ℕ) × Names h p VttbrEl2 root value × (tag_number value ≡ vmid)
ReadsTag inorder (Kernel world) h p (Asid asid) root = (value from : ℕ) × Names h p Ttbr0El1 root value
    × GivesAsid inorder world.asid_from h p value from × (tag_number from ≡ asid)
ReadsTag inorder (Kernel world) h p Ttbr1Tag root = (value : ℕ) × Names h p Ttbr1El1 root value
ReadsTag inorder world h p tag root = ⊥
