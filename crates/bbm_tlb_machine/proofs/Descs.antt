-- What values of one core have in common, and what is known of tables and leaves.
use Rattle.bbm_rules.proofs.Common.{◌≡◌, ℕ, suc, ◌+◌, ◌-◌, ◌*◌, ◌/◌, ◌^◌, ◌≤◌, true, false, Some, is_some, refl, sym}
use Rattle.bbm_rules.proofs.Common.{◌∙◌, ap, subst, arith, true≢false, false_from_ne_true, not-false, Kind, Form}
use Rattle.bbm_rules.proofs.Common.{core_in, desc_as, desc_of, desc_with, differ, form_of, is_valid, needs, same_core}
use Rattle.bbm_rules.proofs.Common.{valid_form, Core, Desc, Invalid, Table, Leaf, Trust, Heading, next_in, next_of}
use Rattle.bbm_descriptor.specs.declared.desc.Core.TheVariants.{Table as CoreTable, Leaf as CoreLeaf}
use Rattle.bbm_rules.specs.Prelude.{input_pages}
use Rattle.bbm_tlb_machine.specs.Entry.{is_leaf}
use Rattle.bbm_tlb_machine.specs.KnownOfMachine.{Known}
use Rattle.bbm_tlb_machine.proofs.PartLemmas.{none_at}

not_invalid : (form : Form) (kind : Kind) (level value : ℕ) → valid_form form ≡ true → desc_as form kind level value ≡ Invalid → ⊥
not_invalid Form.invalid kind level value v e = true≢false (sym v)
not_invalid form kind level value v e = cc

-- a table stands above level 3, and its next page translates a part of its region by each of 512 places
pub pages_below : (kind : Kind) (level value next : ℕ) → next_of kind level value ≡ Some next
    → input_pages level ≡ 512 * input_pages (suc level)
pages_below kind (suc (suc (suc level))) value next e = let none = none_at kind level value in cc
pages_below kind level value next e = refl

pub some_pages : (level : ℕ) → 1 ≤ input_pages level
some_pages (suc (suc (suc level))) =
    let none : 3 - suc (suc (suc level)) ≡ 0 = omega arith in
    let one : 1 ≤ 2 ^ (12 + 9 * 0) / 4096 = omega arith in
    subst (λ (n : ℕ). 1 ≤ 2 ^ (12 + 9 * n) / 4096) (sym none) one
some_pages level = omega arith

pub leaf_if_no_table : (kind : Kind) (level value : ℕ) → is_valid kind level value ≡ true
    → is_some (next_in (desc_of kind level value)) ≡ false → is_leaf (desc_of kind level value) ≡ true
leaf_if_no_table kind level value v e = by (form_of level value) v e
  where
    by : (form : Form) → valid_form form ≡ true → is_some (next_in (desc_as form kind level value)) ≡ false
        → is_leaf (desc_as form kind level value) ≡ true
    by Form.invalid v e = absurd (true≢false (sym v))
    by Form.table v e = absurd (true≢false e)
    by Form.leaf v e = refl

pub no_leaf_if_table : (d : Desc) → is_some (next_in d) ≡ true → is_leaf d ≡ false
no_leaf_if_table Invalid e = refl
no_leaf_if_table (Table next ns) e = refl
no_leaf_if_table (Leaf out attrs share global contiguous) e = absurd (true≢false (sym e))

-- what the law of the test of two cores says
abbrev pub CoreLaw : Type 0
CoreLaw = (one other : Core) → same_core one other ≡ true → one ≡ other

module _ (law : CoreLaw) where
  cores_same : (c c' : Core) → differ (Some c) (Some c') ≡ false → desc_with c ≡ desc_with c'
  cores_same c c' e = ap desc_with (law c c' (not-false (same_core c c') e))

  same_in : (d d' : Desc) → (d ≡ Invalid → ⊥) → (d' ≡ Invalid → ⊥) → differ (core_in d) (core_in d') ≡ false → d ≡ d'
  same_in Invalid d' n m e = absurd (n refl)
  same_in d Invalid n m e = absurd (m refl)
  same_in (Table next ns) (Table next' ns') n m e = cores_same (CoreTable next ns) (CoreTable next' ns') e
  same_in (Leaf out attrs share global contiguous) (Leaf out' attrs' share' global' contiguous') n m e =
      cores_same (CoreLeaf out attrs share global contiguous) (CoreLeaf out' attrs' share' global' contiguous') e
  same_in d d' n m e = absurd (true≢false e)

  -- valid values that don't need break-before-make mean the same, but for what is in no core
  pub means_same : (kind : Kind) (level a c : ℕ) → is_valid kind level a ≡ true → is_valid kind level c ≡ true
      → needs kind level a c ≡ false → desc_of kind level a ≡ desc_of kind level c
  means_same kind level a c va vc e =
      same_in (desc_of kind level a) (desc_of kind level c) (not_invalid (form_of level a) kind level a va)
      (not_invalid (form_of level c) kind level c vc) e

module _ (heading : Heading) (trust : Trust) (k : Known heading trust) where
  -- two values that have the core of a third one
  pub no_need : (kind : Kind) (level c u v : ℕ) → is_valid kind level c ≡ true → needs kind level c u ≡ false
      → needs kind level c v ≡ false → needs kind level u v ≡ false
  no_need kind level c u v valid eu ev =
      false_from_ne_true (needs kind level u v) (λ y. let parts = k.need kind level u v y in
      parts.2 (ap core_in (sym (means_same k.same_cores kind level c u valid parts.0 eu) ∙ means_same k.same_cores kind level c v valid parts.1 ev)))
