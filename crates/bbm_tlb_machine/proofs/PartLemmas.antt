-- A table stands above level 3, and what it names is its next page.
use Rattle.bbm_rules.proofs.Common.{◌≡◌, ℕ, suc, ◌<◌, ◌≤◌, Bool, true, false, cond, ◌==◌, None, refl, sym, ◌∙◌, ap}
use Rattle.bbm_rules.proofs.Common.{arith, true≢false, desc_as, desc_of, invalid, leaf, Table, type_bits, Kind, is_that}
use Rattle.bbm_rules.proofs.Common.{next_in, next_of}

no_table : (kind : Kind) (level value : ℕ) (a b : Bool)
    → next_in (desc_as (cond a leaf (cond b invalid invalid)) kind (suc (suc (suc level))) value) ≡ None
no_table kind level value true b = refl
no_table kind level value false true = refl
no_table kind level value false false = refl

pub none_at : (kind : Kind) (level value : ℕ) → next_of kind (suc (suc (suc level))) value ≡ None
none_at kind level value = no_table kind level value (type_bits value == 3) (type_bits value == 1)

above : (kind : Kind) (level value n : ℕ) → level ≤ 3 → is_that (next_of kind level value) n ≡ true → level < 3
above kind (suc (suc (suc level))) value n small k =
    absurd (true≢false (sym k ∙ ap (λ o. is_that o n) (none_at kind level value)))
above kind level value n small k = omega arith

pub table_above : (kind : Kind) (level value n next : ℕ) (ns : Bool) → level ≤ 3 → desc_of kind level value ≡ Table next ns → (next == n) ≡ true → level < 3
table_above kind level value n next ns small e k =
    above kind level value n small (ap (λ d. is_that (next_in d) n) e ∙ k)

pub ruleset parts = (table_above)
