-- Places that hold something.
use Rattle.bbm_tree_index.proofs.Common.{PlaceMap, core_at, is_at, next_in}
use Rattle.bbm_rules.proofs.Common.{◌≡◌, ◌%◌, ◌&&◌, ◌==◌, ◌∙◌, ℕ, Bool, true, false, Option, Some, None, refl, sym, ap}
use Rattle.bbm_rules.proofs.Common.{inl, inr, true≢false, if◌then◌else◌, is_some, Kind, page_of, Core, none-some, eq-eqb, option_map, ◌+◌, ◌*◌, ◌/◌}
use Rattle.std.proofs.lemmas.Bool.{cases_Bool}
use Rattle.bbm_place_map.specs.Cells.{value_in}
use Rattle.bbm_place_map.specs.Entries.{marks_of}
use Rattle.bbm_place_map.specs.ByNumber.{entry_at}
use Rattle.bbm_place_map.specs.Map.{marks_at, value_at}
use Rattle.bbm_place_map.specs.Sound.{at_index, bases}
use Rattle.bbm_tree_index.proofs.Blank.{holds_nothing}

-- an address that is that of no descriptor has the value 0, and isn't broken
value_off : (map : PlaceMap) (a : ℕ) → (a % 8 == 0) ≡ false → value_at map a ≡ 0
unfolding value_at
value_off map a off = ap (λ (b : Bool). at_index 0 (value_in map.values.items)
    (if b then option_map (λ x. x + a % 4096 / 8) (bases map.pages (a / 4096 * 4096)) else None)) off

marks_off : (map : PlaceMap) (a : ℕ) → (a % 8 == 0) ≡ false → marks_at map a ≡ None
unfolding marks_at
marks_off map a off = ap (λ (b : Bool). marks_of (at_index None (entry_at map.broken)
    (if b then option_map (λ x. x + a % 4096 / 8) (bases map.pages (a / 4096 * 4096)) else None))) off

pub table_holds : (o : Option Core) (next : ℕ) → next_in o ≡ Some next → is_some o ≡ true
table_holds None next e = absurd (none-some next e)
table_holds (Some core) next e = refl

-- a place that holds a table is that of a descriptor
pub table_at : (map : PlaceMap) (kind : Kind) (level page a next : ℕ) → page_of a ≡ page
    → next_in (core_at map kind level a) ≡ Some next → is_at page a ≡ true
table_at map kind level page a next here table =
    elim (cases_Bool (a % 8 == 0)) [
      | inl aligned ↦ ap (λ b. b && a % 8 == 0) (eq-eqb (page_of a) page here) ∙ aligned
      | inr off ↦
          absurd (true≢false (sym (table_holds (core_at map kind level a) next table)
          ∙ holds_nothing map kind level a (value_off map a off) (marks_off map a off)))
    ]
