-- A scope over a range of pages beside the scopes that are alike but have one page of it.
use Rattle.std.specs.Prelude.{◌≡◌, ℕ, Bool, Some, ◌≤◌, not, ◌||◌}
use Rattle.bbm_regimes.specs.Extent.{Extent, Has}
use Rattle.bbm_tlbi_scope.specs.declared.scope.Scope.{Scope}
use Rattle.bbm_tlbi_scope.specs.declared.entry.PlaceView.{PlaceView}
use Rattle.bbm_tlbi_scope.specs.Decode.{one_page}

-- the scope that is alike but has this one page
abbrev pub at_page : Scope → ℕ → Scope
at_page s n = record s { interval = Some (one_page n) }

-- the scope has these pages, of which there is one at least
pub record IsOver (s : Scope) (pages : Extent) : Type 0 where
  pub interval : s.interval ≡ Some pages
  pub some : pages.lo ≤ pages.hi

-- the fact holds of the scope that is alike but has one page, for some page
abbrev pub AtSomePage : Scope → Extent → (Scope → Type 0) → Type 0
AtSomePage s pages P = (n : ℕ) × Has pages n × P (at_page s n)

-- whether the place holds a leaf or a childless table, so that no place below it holds a value
abbrev pub is_lowest : PlaceView → Bool
is_lowest v = not v.table || v.childless
