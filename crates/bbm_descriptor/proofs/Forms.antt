-- The form of a value, from what it was read as.
use Rattle.std.proofs.Common.{◌≡◌, ℕ, zero, suc, ◌+◌, ◌%◌, ◌^◌, ◌<◌, ◌≤◌, Bool, true, false, ◌==◌, if◌then◌else◌, refl}
use Rattle.std.proofs.Common.{arith}
use Rattle.bbm_regimes.specs.Extent.{span_of}
use Rattle.bbm_regimes.specs.declared.regime.Kind.{Kind}
use Rattle.bbm_descriptor.specs.declared.desc.Desc.TheVariants.{Invalid, Table, Leaf}
use Rattle.bbm_descriptor.specs.Fields.{type_bits, next_of, out_of}
use Rattle.bbm_descriptor.specs.Descriptor.{Form, invalid, table, leaf, form_of, desc_as, desc_of, Fits}

pub as_invalid : (form : Form) (kind : Kind) (level value : ℕ) → Invalid ≡ desc_as form kind level value → form ≡ invalid
as_invalid invalid kind level value h = refl
as_invalid table kind level value h = cc
as_invalid leaf kind level value h = cc

pub as_table : (form : Form) (kind : Kind) (level value next : ℕ) (ns : Bool) → Table next ns ≡ desc_as form kind level value → (form ≡ table) × (next ≡ next_of value)
as_table invalid kind level value next ns h = cc
as_table table kind level value next ns h = (refl, cc)
as_table leaf kind level value next ns h = cc

pub as_leaf : (form : Form) (kind : Kind) (level value out attrs share : ℕ) (global contiguous : Bool) → Leaf out attrs share global contiguous ≡ desc_as form kind level value → (form ≡ leaf) × (out ≡ out_of level value)
as_leaf invalid kind level value out attrs share global contiguous h = cc
as_leaf table kind level value out attrs share global contiguous h = cc
as_leaf leaf kind level value out attrs share global contiguous h = (refl, cc)

no_leaf_0 : (kind : Kind) (value out attrs share : ℕ) (global contiguous : Bool) → Leaf out attrs share global contiguous ≡ desc_of kind 0 value → ⊥
no_leaf_0 kind value out attrs share global contiguous h =
    none (type_bits value == 3) (type_bits value == 1) (as_leaf (form_of 0 value) kind 0 value out attrs share global contiguous h).0 where
      none : (a b : Bool) → (if a then table else (if b then invalid else invalid)) ≡ leaf → ⊥
      none true b h = cc
      none false true h = cc
      none false false h = cc

-- the output of a leaf and an offset in its region fit
pub leaf_fits : (kind : Kind) (level value out attrs share span addr : ℕ) (global contiguous : Bool) → level ≤ 3 → Leaf out attrs share global contiguous ≡ desc_of kind level value → Fits level (Leaf out attrs share global contiguous) → span ≡ span_of level → (out + addr % span < 2 ^ 48) × (1 ≤ level) × (level ≤ 3)
leaf_fits kind zero value out attrs share span addr global contiguous low h fits is_span = absurd (no_leaf_0 kind value out attrs share global contiguous h)
leaf_fits kind (suc zero) value out attrs share span addr global contiguous low h fits is_span = rw is_span (omega arith, omega arith, omega arith)
leaf_fits kind (suc (suc zero)) value out attrs share span addr global contiguous low h fits is_span = rw is_span (omega arith, omega arith, omega arith)
leaf_fits kind (suc (suc (suc zero))) value out attrs share span addr global contiguous low h fits is_span = rw is_span (omega arith, omega arith, omega arith)
leaf_fits kind (suc (suc (suc (suc level)))) value out attrs share span addr global contiguous low h fits is_span = absurd (omega arith)
