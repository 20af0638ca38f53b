-- What the code asks of the places above a page, by the roles alone. Source: project's own choice.
use Rattle.std.specs.Prelude.{ℕ, zero, suc, Bool, true, false, not, ◌||◌}
use Rattle.bbm_descriptor.specs.Descriptor.{is_valid}
use Rattle.bbm_place_map.specs.Map.{value_at}
use Rattle.bbm_place_map.specs.declared.map.PlaceMap.{PlaceMap}
use Rattle.bbm_regimes.specs.declared.regime.Kind.{Kind}
use Rattle.bbm_rules.specs.Places.{page_of}
use Rattle.bbm_tree_index.specs.declared.role.Role.{Role}
use Rattle.bbm_tree_index.specs.declared.role.Role.TheVariants.{Untracked, Fresh, RootPage, Hangs, Gone, Null}

-- whether the value of a place is invalid
abbrev pub is_invalid_at : PlaceMap → Kind → ℕ → ℕ → Bool
is_invalid_at map kind level place = not (is_valid kind level (value_at map place))

-- Whether the test holds of a place above a page with this role, whose level is the number, or a page above it is in no
-- tree.
module _ (test : Kind → ℕ → ℕ → Bool) (roles : ℕ → Role) where
  abbrev pub cut_by : ℕ → Role → Bool
  cut_by zero (RootPage kind first part) = false
  cut_by zero (Hangs parent kind level base first) = false
  cut_by zero Untracked = true
  cut_by zero Fresh = true
  cut_by zero Gone = true
  cut_by zero Null = true
  cut_by (suc left) (RootPage kind first part) = false
  cut_by (suc left) (Hangs parent kind level base first) = test kind left parent || cut_by left (roles (page_of parent))
  cut_by (suc left) Untracked = true
  cut_by (suc left) Fresh = true
  cut_by (suc left) Gone = true
  cut_by (suc left) Null = true
