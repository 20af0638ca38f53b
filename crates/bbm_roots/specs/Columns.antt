-- One register of every PE: the values that may still be in use, by the PE's number.
use Rattle.std.specs.Prelude.{◌≡◌, ℕ, zero, suc, nat_eq, List, [], ◌∷◌, length, if◌then◌else◌}
use Rattle.arrayvec.specs.ArrayVec.{ArrayVec}
use Rattle.bbm_roots.specs.declared.load.RootValue.{RootValue}

abbrev pub Column : Type 0
Column = List (ArrayVec RootValue)

-- the values of the PE p
abbrev pub loads_in : Column → ℕ → List RootValue
loads_in [] p = []
loads_in (v ∷ vs) zero = v.items
loads_in (v ∷ vs) (suc p) = loads_in vs p

-- the values of the PE become what f makes of them, and those of every other PE stay
pub record ChangesLoads (f : List RootValue → List RootValue) (pe : ℕ) (old new : Column) : Type 0 where
  pub loads : (p : ℕ) → loads_in new p ≡ (if nat_eq p pe then f (loads_in old p) else loads_in old p)
  pub pes : length new ≡ length old
