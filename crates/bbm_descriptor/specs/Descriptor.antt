-- What a value of a place means at a kind and a level, and when a write over it needs
-- break-before-make.
use Rattle.std.specs.Prelude.{◌≡◌, ℕ, Bool, true, false, not, ◌&&◌, ◌==◌, ◌<◌, ◌%◌, ◌^◌, Option, Some, None, zero, suc}
use Rattle.std.specs.Prelude.{if◌then◌else◌}
use Rattle.bbm_lemmas.specs.ListWords.{same_flag}
use Rattle.bbm_regimes.specs.declared.regime.Kind.{Kind}
use Rattle.bbm_regimes.specs.declared.regime.Kind.TheVariants.{El2, S2, Ttbr0, Ttbr1}
use Rattle.bbm_regimes.specs.Extent.{span_of}
use Rattle.bbm_descriptor.specs.Fields.{type_bits, next_of, ns_table, out_of, attrs_of, share_of, not_global}
use Rattle.bbm_descriptor.specs.Fields.{contiguous_of}
use Rattle.bbm_descriptor.specs.declared.desc.Desc.{Desc}
use Rattle.bbm_descriptor.specs.declared.desc.Desc.TheVariants.{Invalid, Table, Leaf}
use Rattle.bbm_descriptor.specs.declared.desc.Core.{Core}
use Rattle.bbm_descriptor.specs.declared.desc.Core.TheVariants.{Table as CoreTable, Leaf as CoreLeaf}

-- the three forms of a descriptor; a leaf is a block or a page
pub data Form : Type 0 where
  invalid : Form
  table : Form
  leaf : Form

-- The form where bits [1:0] are 11, by level: a table above level 3, a page there.
-- Source: Arm ARM (DDI 0487), "VMSAv8-64 descriptor formats".
abbrev pub form_11 : ℕ → Form
form_11 zero = table
form_11 (suc zero) = table
form_11 (suc (suc zero)) = table
form_11 _ = leaf

-- The form where bits [1:0] are 01, by level: a block at levels 1 and 2 alone.
-- Source: Arm ARM (DDI 0487), "VMSAv8-64 descriptor formats".
abbrev pub form_01 : ℕ → Form
form_01 zero = invalid
form_01 (suc zero) = leaf
form_01 (suc (suc zero)) = leaf
form_01 _ = invalid

-- the form of a value at a level; where bit 0 is 0 it is invalid at every level
abbrev pub form_of : ℕ → ℕ → Form
form_of level value =
    (if type_bits value == 3 then form_11 level
    else (if type_bits value == 1 then form_01 level
    else invalid))

-- whether tables of this kind are of stage 1
abbrev pub stage1 : Kind → Bool
stage1 El2 = true
stage1 S2 = false
stage1 Ttbr0 = true
stage1 Ttbr1 = true

-- The descriptor of a form. NSTable and nG exist at stage 1 alone: at stage 2 no table is `ns`, and
-- no leaf is `global`. Which fields are read is the project's own choice: they are those of the core.
abbrev pub desc_as : Form → Kind → ℕ → ℕ → Desc
desc_as invalid kind level value = Invalid
desc_as table kind level value = Table (next_of value) (stage1 kind && ns_table value)
desc_as leaf kind level value =
    Leaf (out_of level value) (attrs_of value) (share_of value)
    (stage1 kind && not (not_global value)) (contiguous_of value)

-- what a value of a place means at a kind and a level
abbrev pub desc_of : Kind → ℕ → ℕ → Desc
desc_of kind level value = desc_as (form_of level value) kind level value

-- The core of a descriptor: a table with its next table and NSTable, a leaf with its output address,
-- bits [5:2], SH, whether it is global, and Contiguous. AP, AF, DBM, PXN, UXN, XN and the bits for
-- software are in no core. Source: project's own choice.
abbrev pub core_in : Desc → Option Core
core_in Invalid = None
core_in (Table next ns) = Some (CoreTable next ns)
core_in (Leaf out attrs share global contiguous) = Some (CoreLeaf out attrs share global contiguous)

-- the core of a value at a kind and a level, None where the value is invalid
abbrev pub core_of : Kind → ℕ → ℕ → Option Core
core_of kind level value = core_in (desc_of kind level value)

-- the descriptor with the fields of a core
abbrev pub desc_with : Core → Desc
desc_with (CoreTable next ns) = Table next ns
desc_with (CoreLeaf out attrs share global contiguous) = Leaf out attrs share global contiguous

-- a form is valid where it is a table or a leaf
abbrev pub valid_form : Form → Bool
valid_form invalid = false
valid_form table = true
valid_form leaf = true

-- whether a value is valid at a kind and a level; the kind has no part in it
abbrev pub is_valid : Kind → ℕ → ℕ → Bool
is_valid kind level value = valid_form (form_of level value)

-- whether two cores are equal
abbrev pub same_core : Core → Core → Bool
same_core (CoreTable next ns) (CoreTable next' ns') = next == next' && same_flag ns ns'
same_core (CoreLeaf out attrs share global contiguous) (CoreLeaf out' attrs' share' global' contiguous') =
    out == out' && attrs == attrs' && share == share' && same_flag global global' && same_flag contiguous contiguous'
same_core _ _ = false

-- both are cores, and they differ
abbrev pub differ : Option Core → Option Core → Bool
differ (Some old) (Some new) = not (same_core old new)
differ _ _ = false

-- Whether writing a value over an old one at a kind and a level needs break-before-make: both are
-- valid and their cores differ. Source: Arm ARM (DDI 0487), "Using break-before-make when updating
-- translation table entries", with the project's own core.
abbrev pub needs : Kind → ℕ → ℕ → ℕ → Bool
needs kind level old new = differ (core_of kind level old) (core_of kind level new)

-- Addresses fit: a next table is a page below 2^48, and an output address is a multiple of the span
-- of its level below 2^48.
abbrev pub Fits : ℕ → Desc → Type 0
Fits level Invalid = Unit {0}
Fits level (Table next _) = (next < 2 ^ 48) × (next % 4096 ≡ 0)
Fits level (Leaf out attrs share _ _) =
    (out < 2 ^ 48) × (out % span_of level ≡ 0) × (attrs < 16) × (share < 4)
