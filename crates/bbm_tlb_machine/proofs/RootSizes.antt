-- The first page of a root, and what is left of a place behind it.
use Rattle.bbm_rules.proofs.Common.{◌≡◌, ℕ, ◌-◌, ◌*◌, ◌/◌, ◌%◌, arith}
use Rattle.std.proofs.Math.Nat.{mod-eq-sub-div-mul, mod-add-div'}

pub root_is : (x n : ℕ) → x - x % n ≡ x / n * n
root_is x n = omega (arith, mod-add-div' x n)

pub rest_is : (x n : ℕ) → x % n ≡ x - x / n * n
rest_is x n = mod-eq-sub-div-mul x n
