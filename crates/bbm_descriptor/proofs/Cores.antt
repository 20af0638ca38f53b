-- Equality of cores, and the need of break-before-make over any two of them.
use Rattle.std.proofs.Common.{◌≡◌, ◌≢◌, ℕ, Bool, true, false, not, ◌↔◌, Option, Some, None, is_some, refl, ap, sym, ◌∙◌}
use Rattle.std.proofs.Common.{subst, arith}
use Rattle.std.proofs.lemmas.Bool.Decides.{nat_tests}
use Rattle.bbm_lemmas.proofs.Tautologies.{proved}
use Rattle.bbm_lemmas.proofs.Tautologies.Claim.{If, Is, Never}
use Rattle.bbm_regimes.specs.declared.regime.Kind.{Kind}
use Rattle.bbm_descriptor.specs.declared.desc.Core.{Core}
use Rattle.bbm_descriptor.specs.declared.desc.Core.TheVariants.{Table as CoreTable, Leaf as CoreLeaf}
use Rattle.bbm_descriptor.specs.Descriptor.{Form, invalid, table, leaf, form_of, desc_as, core_of, core_in, is_valid}
use Rattle.bbm_descriptor.specs.Descriptor.{valid_form, same_core, differ, needs}
use Rattle.bbm_lemmas.specs.ListWords.{same_flag}
use Rattle.bbm_lemmas.proofs.Bools.{same_truth, not_from}

pub same_flag-refl : (b : Bool) → same_flag b b ≡ true
same_flag-refl true = refl
same_flag-refl false = refl

pub same_flag-eq : (a b : Bool) → same_flag a b ≡ true → a ≡ b
same_flag-eq true true h = refl
same_flag-eq true false h = sym h
same_flag-eq false true h = h
same_flag-eq false false h = refl

pub core_where_valid-as : (form : Form) (kind : Kind) (level value : ℕ) → is_some (core_in (desc_as form kind level value)) ≡ valid_form form
core_where_valid-as invalid kind level value = refl
core_where_valid-as table kind level value = refl
core_where_valid-as leaf kind level value = refl

-- a value has a core where it is valid
pub core_where_valid : (kind : Kind) (level value : ℕ) → is_some (core_of kind level value) ≡ is_valid kind level value
core_where_valid kind level value = core_where_valid-as (form_of level value) kind level value

pub same_core-refl : (c : Core) → same_core c c ≡ true
same_core-refl (CoreTable next ns) = grind (arith, nat_tests, same_flag-refl ns)
same_core-refl (CoreLeaf out attrs share global contiguous) = grind (arith, nat_tests, same_flag-refl global, same_flag-refl contiguous)

pub same_core-eq : (c d : Core) → same_core c d ≡ true → c ≡ d
same_core-eq (CoreTable next ns) (CoreTable next' ns') h = grind (arith, nat_tests, same_flag-eq ns ns')
same_core-eq (CoreTable next ns) (CoreLeaf out' attrs' share' global' contiguous') h = cc
same_core-eq (CoreLeaf out attrs share global contiguous) (CoreTable next' ns') h = cc
same_core-eq (CoreLeaf out attrs share global contiguous) (CoreLeaf out' attrs' share' global' contiguous') h =
    grind (arith, nat_tests, same_flag-eq global global', same_flag-eq contiguous contiguous')

same_core-comm : (c d : Core) → same_core c d ≡ same_core d c
same_core-comm c d =
    same_truth (same_core c d) (same_core d c)
    (λ h. subst (λ x. same_core x c ≡ true) (same_core-eq c d h) (same_core-refl c))
    (λ h. subst (λ x. same_core x d ≡ true) (same_core-eq d c h) (same_core-refl d))

pub differ-comm : (one other : Option Core) → differ one other ≡ differ other one
differ-comm None None = refl
differ-comm None (Some d) = refl
differ-comm (Some c) None = refl
differ-comm (Some c) (Some d) = ap not (same_core-comm c d)

some-eq : (c d : Core) → Some c ≡ Some d → c ≡ d
some-eq c d h = cc

not_true : (b : Bool) → not b ≡ true → b ≡ true → ⊥
not_true = proved 1 (λ b. If (Is (not b) true) (If (Is b true) Never)) refl

-- two cores differ where both are there and they aren't equal
pub differ-tells : (one other : Option Core) → (differ one other ≡ true) ↔ ((is_some one ≡ true) × (is_some other ≡ true) × (one ≢ other))
differ-tells None None = (λ h. cc, λ h. cc)
differ-tells None (Some d) = (λ h. cc, λ h. cc)
differ-tells (Some c) None = (λ h. cc, λ h. cc)
differ-tells (Some c) (Some d) = (
  λ h. (refl, refl, λ e. not_true (same_core c d) h (subst (λ x. same_core c x ≡ true) (some-eq c d e) (same_core-refl c))),
  λ h. not_from (same_core c d) (λ same. h.2 (ap Some (same_core-eq c d same))),
)

pub need-comm : (kind : Kind) (level old new : ℕ) → needs kind level old new ≡ needs kind level new old
need-comm kind level old new = differ-comm (core_of kind level old) (core_of kind level new)

pub need-tells : (kind : Kind) (level old new : ℕ) → (needs kind level old new ≡ true) ↔ ((is_valid kind level old ≡ true) × (is_valid kind level new ≡ true) × (core_of kind level old ≢ core_of kind level new))
need-tells kind level old new = (
  λ need. let all = (differ-tells (core_of kind level old) (core_of kind level new)).0 need in
      (sym (core_where_valid kind level old) ∙ all.0, sym (core_where_valid kind level new) ∙ all.1, all.2),
  λ all. (differ-tells (core_of kind level old) (core_of kind level new)).1
      (core_where_valid kind level old ∙ all.0, core_where_valid kind level new ∙ all.1, all.2),
)

pub ruleset needs_told = (need-tells, need-comm)
