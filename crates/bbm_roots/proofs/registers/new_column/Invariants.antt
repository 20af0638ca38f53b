use Rattle.bbm_roots.proofs.Common.{◌≡◌, ℕ, ◌<◌, ◌∷◌, [], length, loads_in, at_start}
use Rattle.bbm_roots.proofs.registers.new_column.Given as goal

abbrev pub invariant-loop-pe : goal.invariant-loop-pe
invariant-loop-pe g l = record {
  pes : length l.column.items ≡ l._pe;
  start : (p : ℕ) → p < l._pe → loads_in l.column.items p ≡ at_start ∷ [];
}
