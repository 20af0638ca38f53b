-- Whether two numbers are one, asked by either side.
use Rattle.std.proofs.Common.{◌≡◌, ℕ, ◌==◌, arith}
use Rattle.std.proofs.lemmas.Bool.Decides.{nat_tests}

pub same_swapped : (n m : ℕ) → (n == m) ≡ (m == n)
same_swapped n m = grind (arith, nat_tests)
