-- A write over a value of the same core: it links the same next table.
use Rattle.bbm_histories.proofs.Common.{Heading, Below}
use Rattle.bbm_rules.proofs.Common.{◌≡◌, ℕ, true, false, Option, Some, None, is_some, refl, sym, ◌∙◌, ap, true≢false}
use Rattle.bbm_rules.proofs.Common.{not-false, Kind, Form, core_in, core_of, desc_as, desc_of, differ, form_of}
use Rattle.bbm_rules.proofs.Common.{is_valid, needs, same_core, valid_form, Core, Desc, Invalid, Table, Leaf, Trust}
use Rattle.bbm_rules.proofs.Common.{next_in, next_of}

-- a table is valid
pub table_is_valid : (kind : Kind) (level value next : ℕ) → next_of kind level value ≡ Some next → is_valid kind level value ≡ true
table_is_valid kind level value next e = by (form_of level value) e
  where
    by : (form : Form) → next_in (desc_as form kind level value) ≡ Some next → valid_form form ≡ true
    by Form.invalid e = cc
    by Form.table e = refl
    by Form.leaf e = refl

-- descriptors of one core have one next table
next_by_core : (d d' : Desc) → core_in d ≡ core_in d' → next_in d ≡ next_in d'
next_by_core Invalid Invalid e = refl
next_by_core Invalid (Table next ns) e = cc
next_by_core Invalid (Leaf out attrs share global contiguous) e = refl
next_by_core (Table next ns) Invalid e = cc
next_by_core (Table next ns) (Table next' ns') e = cc
next_by_core (Table next ns) (Leaf out attrs share global contiguous) e = cc
next_by_core (Leaf out attrs share global contiguous) Invalid e = refl
next_by_core (Leaf out attrs share global contiguous) (Table next ns) e = cc
next_by_core (Leaf out attrs share global contiguous) (Leaf out' attrs' share' global' contiguous') e = refl

module _ (heading : Heading) (trust : Trust) (b : Below heading trust) (kind : Kind) (level : ℕ) where
  -- valid values between which there is no need have the same core
  pub core_same : (old new : ℕ) → is_valid kind level old ≡ true → is_valid kind level new ≡ true
      → needs kind level old new ≡ false → core_of kind level old ≡ core_of kind level new
  core_same old new vo vn e =
      by (core_of kind level old) (core_of kind level new) (b.core_where_valid kind level old ∙ vo) (b.core_where_valid kind level new ∙ vn) e
    where
      by : (c d : Option Core) → is_some c ≡ true → is_some d ≡ true → differ c d ≡ false → c ≡ d
      by None d s t k = absurd (true≢false (sym s))
      by (Some x) None s t k = absurd (true≢false (sym t))
      by (Some x) (Some y) s t k = ap Some ((b.same_core_is_equal x y).0 (not-false (same_core x y) k))

  next_same : (old new : ℕ) → is_valid kind level old ≡ true → is_valid kind level new ≡ true → needs kind level old new ≡ false
      → next_of kind level old ≡ next_of kind level new
  next_same old new vo vn e =
      next_by_core (desc_of kind level old) (desc_of kind level new) (core_same old new vo vn e)

  pub table_back : (old new next : ℕ) → is_valid kind level old ≡ true → needs kind level old new ≡ false
      → next_of kind level new ≡ Some next → next_of kind level old ≡ Some next
  table_back old new next valid same e = next_same old new valid (table_is_valid kind level new next e) same ∙ e

  pub table_on : (old new next : ℕ) → is_valid kind level new ≡ true → needs kind level old new ≡ false
      → next_of kind level old ≡ Some next → next_of kind level new ≡ Some next
  table_on old new next valid same e = sym (next_same old new (table_is_valid kind level old next e) valid same) ∙ e
