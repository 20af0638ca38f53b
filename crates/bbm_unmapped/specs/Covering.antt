-- What becomes of the free pages and the bounds where leaves come to be held. Source: project's own choice.
use Rattle.std.specs.Prelude.{◌≡◌, ◌↔◌, ℕ, true}
use Rattle.bbm_tree_index.specs.Outputs.{Grows}
use Rattle.bbm_unmapped.specs.Unmapped.{free_in, may_map, pages_in}
use Rattle.bbm_unmapped.specs.declared.unmapped.Unmapped.{Unmapped}

-- Tables come to hold leaves that map pages. These are free no more, and lie within the bounds.
pub record Covers (Maps : ℕ → ℕ → Type 0) (old new : Unmapped) : Type 0 where
  pub pages : pages_in new ≡ pages_in old
  pub free : (page : ℕ) → (free_in new page ≡ true)
      ↔ ((free_in old page ≡ true) × ((table : ℕ) → Maps table page → ⊥))
  pub grows : Grows (may_map old) (may_map new)
  pub own : (table page : ℕ) → Maps table page → may_map new table page ≡ true
