-- Pages no place of which has a value or is broken.
use Rattle.bbm_tree_index.proofs.Common.{core_in, Marks, PlaceMap, same_kind, Ttbr0, core_with, holds_at, LeafOf}
use Rattle.bbm_tree_index.proofs.Common.{LeastOf, asks, Leaf, Contiguous, UserGlobal, marks_at, value_at}
use Rattle.bbm_rules.proofs.Common.{◌≡◌, ℕ, false, Option, Some, None, is_some, refl, sym, ap, ◌∙◌, true≢false}
use Rattle.bbm_rules.proofs.Common.{none-some, arith, core_of, desc_of, Invalid, Kind, page_of, next_of, and-false}
use Rattle.bbm_place_map.specs.States.{state_from}
use Rattle.bbm_tree_index.proofs.Places.{at_page}

pub holds_nothing : (map : PlaceMap) (kind : Kind) (level a : ℕ) → value_at map a ≡ 0 → marks_at map a ≡ None
    → holds_at map kind level a ≡ false
holds_nothing map kind level a value marks =
    ap (λ (o : Option Marks). is_some (core_with o kind level (value_at map a))) marks
    ∙ ap (λ (v : ℕ). is_some (core_of kind level v)) value

-- the core of a state that a place has by its marks and its value
pub core_read : (m : Option Marks) (kind : Kind) (level value : ℕ) → core_in (state_from (core_of kind level value) m) ≡ core_with m kind level value
core_read m kind level value = grind arith

pub asks_nothing : (leaf : Leaf) (kind : Kind) → asks leaf kind Invalid ≡ false
asks_nothing Contiguous kind = refl
asks_nothing UserGlobal kind = and-false (same_kind kind Ttbr0)

-- the value 0 is no table
pub leads_nowhere : (kind : Kind) (level value next : ℕ) → next_of kind level value ≡ Some next → value ≡ 0 → ⊥
leads_nowhere kind level value next table e = none-some next (sym (ap (next_of kind level) e) ∙ table)

pub no_leaf : (value : ℕ → ℕ) (page : ℕ) → ((a : ℕ) → page_of a ≡ page → value a ≡ 0) → (leaf : Leaf) (kind : Kind) (level : ℕ)
    → LeastOf (LeafOf value (asks leaf) kind level page) None
no_leaf value page none leaf kind level = λ a l. true≢false (sym l.passes
    ∙ ap (λ (v : ℕ). asks leaf kind (desc_of kind level v)) (none a (at_page page a l.inside)) ∙ asks_nothing leaf kind)
