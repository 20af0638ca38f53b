use Rattle.bbm_roots.proofs.Common.{◌≡◌, ℕ, ◌<◌, ◌||◌, false, loads_in, names_in}
use Rattle.bbm_roots.proofs.registers.Registers.first_user.Given as goal

abbrev pub invariant-loop-number : goal.invariant-loop-number
invariant-loop-number l =
    (p : ℕ) → p < l.number → (names_in (loads_in l.self.first.items p) l.page || names_in (loads_in l.self.second.items p) l.page) ≡ false
