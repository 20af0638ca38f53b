-- Values that keep no page from being attached.
use Rattle.bbm_tree_index.proofs.Common.{not_global, same_kind, Ttbr0, asks, leaf_bits, spares, Leaf, Contiguous}
use Rattle.bbm_tree_index.proofs.Common.{UserGlobal}
use Rattle.bbm_rules.proofs.Common.{◌≡◌, ℕ, zero, suc, ◌%◌, Bool, true, false, not, ◌&&◌, ◌||◌, ◌==◌, refl, arith}
use Rattle.bbm_rules.proofs.Common.{nat_tests, eq-eqb, proved, If, Is, Form, invalid, leaf, desc_as, desc_of, form_of}
use Rattle.bbm_rules.proofs.Common.{contiguous_of, Kind, and-false}
use Rattle.bbm_descriptor.specs.Descriptor.{table, stage1}
use Rattle.bbm_tree_index.proofs.Blank.{asks_nothing}

both_stages : (x s y : Bool) → (x && y) ≡ false → (x && (s && y)) ≡ false
both_stages = proved 3 (λ x s y. If (Is (x && y) false) (Is (x && (s && y)) false)) refl

-- a leaf has the bits [1:0] of one
leaf_is : (level value : ℕ) → form_of level value ≡ leaf → value % 4 ≡ leaf_bits level
leaf_is zero value e = grind (arith, nat_tests)
leaf_is (suc zero) value e = grind (arith, nat_tests)
leaf_is (suc (suc zero)) value e = grind (arith, nat_tests)
leaf_is (suc (suc (suc level))) value e = grind (arith, nat_tests)

-- what is spared where a leaf has these bits
spared : (x y z : Bool) → x ≡ true → (not x || (not y && not z)) ≡ true → (y ≡ false) × (z ≡ false)
spared x y z t e = grind arith

asks_as : (form : Form) (which : Leaf) (kind : Kind) (level value : ℕ) → (form ≡ leaf → (contiguous_of value ≡ false)
    × ((same_kind kind Ttbr0 && not (not_global value)) ≡ false)) → asks which kind (desc_as form kind level value) ≡ false
asks_as invalid which kind level value none = asks_nothing which kind
asks_as table Contiguous kind level value none = refl
asks_as table UserGlobal kind level value none = and-false (same_kind kind Ttbr0)
asks_as leaf Contiguous kind level value none = (none refl).0
asks_as leaf UserGlobal kind level value none =
    both_stages (same_kind kind Ttbr0) (stage1 kind) (not (not_global value)) (none refl).1

-- the test of a value is enough
pub harmless : (which : Leaf) (kind : Kind) (level value : ℕ)
    → spares (same_kind kind Ttbr0) (leaf_bits level) value ≡ true
    → asks which kind (desc_of kind level value) ≡ false
harmless which kind level value h = asks_as (form_of level value) which kind level value
    (λ e. spared (value % 4 == leaf_bits level) (contiguous_of value) (same_kind kind Ttbr0 && not (not_global value))
    (eq-eqb (value % 4) (leaf_bits level) (leaf_is level value e)) h)
