-- The one word by which contracts speak of a set of processing elements.
use Rattle.std.specs.Prelude.{ℕ, Bool, ◌==◌}
use Rattle.std.specs.Int.{bit_at}
use Rattle.bbm_regimes.specs.declared.pe.PeMask.{PeMask}

-- whether the PE with this number is in the set
unfoldable pub pe_in : PeMask → ℕ → Bool
pe_in mask p = bit_at mask.bits p == 1
