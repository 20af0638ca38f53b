-- The bits of a mask, one by one.
use Rattle.std.proofs.Common.{◌≡◌, ℕ, Bool, false, ◌&&◌, ◌||◌, not, ◌==◌, nat_lt, ◌<◌, ◌≤◌, ◌-◌, ◌^◌, ◌*◌, ◌%◌, ◌/◌}
use Rattle.std.proofs.Common.{◌↔◌, min, max, IsTrue, refl, ap, sym, ◌∙◌, inl, inr, arith}
use Rattle.std.specs.Int.{bit_at, w128}
use Rattle.std.specs.Prelude.{bit_and, bit_or}
use Rattle.std.proofs.lemmas.Nat.Bits.{bit_at-zero, bit_at_and, bit_at_or, bit_at_not, bit_at-lt, bit_at-pow_same}
use Rattle.std.proofs.lemmas.Nat.Bits.{bit_at-pow_other, bit_at_ones, bit_at_ones_above, bit_at_above, ones_shr}
use Rattle.std.proofs.lemmas.Nat.Bits.{shr_and_one, same_from_bits}
use Rattle.std.proofs.lemmas.Bool.{cases_lt}
use Rattle.std.proofs.lemmas.Bool.Decides.{nat_tests, eqb_tells}
use Rattle.std.proofs.lemmas.Nat.{one_shl}

-- whether a number has this bit
abbrev pub has_bit : ℕ → ℕ → Bool
has_bit bits p = bit_at bits p == 1

both_one : (x y : ℕ) → x < 2 → y < 2 → (min x y == 1) ≡ ((x == 1) && (y == 1))
both_one x y hx hy = grind (arith, nat_tests)

one_one : (x y : ℕ) → x < 2 → y < 2 → (max x y == 1) ≡ ((x == 1) || (y == 1))
one_one x y hx hy = grind (arith, nat_tests)

one_less : (x y : ℕ) → x < 2 → y < 2 → (min x (1 - y) == 1) ≡ ((x == 1) && not (y == 1))
one_less x y hx hy = grind (arith, nat_tests)

none_less : (x y : ℕ) → (min 0 x == 1) ≡ ((0 == 1) && not (y == 1))
none_less x y = grind (arith, nat_tests)

pub has_bit-zero : (p : ℕ) → has_bit 0 p ≡ false
has_bit-zero p = rw bit_at-zero refl

pub has_bit-and : (a b p : ℕ) → has_bit (bit_and a b) p ≡ (has_bit a p && has_bit b p)
has_bit-and a b p = rw bit_at_and (both_one (bit_at a p) (bit_at b p) (bit_at-lt a p) (bit_at-lt b p))

pub has_bit-or : (a b p : ℕ) → has_bit (bit_or a b) p ≡ (has_bit a p || has_bit b p)
has_bit-or a b p = rw bit_at_or (one_one (bit_at a p) (bit_at b p) (bit_at-lt a p) (bit_at-lt b p))

-- the bit of a number that is above its width is not set
pub has_bit-minus : (a b p : ℕ) → a < 2 ^ 128 → b < 2 ^ 128 → has_bit (bit_and a (340282366920938463463374607431768211455 - b)) p ≡ (has_bit a p && not (has_bit b p))
has_bit-minus a b p ha hb =
    elim (cases_lt p 128) [
      | inl below ↦ rw (bit_at_and, bit_at_not w128 b p hb below) (one_less (bit_at a p) (bit_at b p) (bit_at-lt a p) (bit_at-lt b p))
      | inr above ↦ rw (bit_at_and, bit_at_above a 128 p ha above) (none_less (bit_at (340282366920938463463374607431768211455 - b) p) (bit_at b p))
    ]

pub has_bit-one : (k p : ℕ) → k < 128 → has_bit (1 * 2 ^ k % 340282366920938463463374607431768211456) p ≡ (p == k)
has_bit-one k p hk =
    let same : 1 * 2 ^ k % 340282366920938463463374607431768211456 ≡ 2 ^ k = one_shl k 128 hk in
    rw same (elim (eqb_tells p k) [
      | inl found ↦ rw found.1 (ap (λ x. x == 1) (bit_at-pow_same k)) ∙ sym found.0
      | inr other ↦ ap (λ x. x == 1) (bit_at-pow_other k p other.1) ∙ sym other.0
    ])

all-below : (n p : ℕ) → p < n → has_bit (2 ^ n - 1) p ≡ nat_lt p n
all-below n p below = rw (bit_at_ones n p below) (grind (arith, nat_tests))

all-above : (n p : ℕ) → n ≤ p → has_bit (2 ^ n - 1) p ≡ nat_lt p n
all-above n p above = rw (bit_at_ones_above n p above) (grind (arith, nat_tests))

pub has_bit-all : (n p : ℕ) → 1 ≤ n → n ≤ 128 → has_bit (340282366920938463463374607431768211455 / 2 ^ (128 - n)) p ≡ nat_lt p n
has_bit-all n p some within =
    let shifted : 340282366920938463463374607431768211455 / 2 ^ (128 - n) ≡ 2 ^ (128 - (128 - n)) - 1 = ones_shr 128 (128 - n) (omega arith) in
    let back : 128 - (128 - n) ≡ n = omega arith in
    rw (shifted, back) (elim (cases_lt p n) [ inl below ↦ all-below n p below | inr above ↦ all-above n p above ])

pub has_bit-at : (a k : ℕ) → (bit_and (a / 2 ^ k) 1 == 1) ≡ has_bit a k
has_bit-at a k = rw shr_and_one refl

not_one : (x : ℕ) → x < 2 → (x == 1) ≡ false → x ≡ 0
not_one x small h = grind (arith, nat_tests)

pub has_bit-none : (a : ℕ) → IsTrue (a == 0) ↔ ((p : ℕ) → has_bit a p ≡ false)
has_bit-none a = (
  λ zero_bits p. let is_zero : a ≡ 0 = grind (arith, nat_tests) in rw (is_zero, bit_at-zero p) refl,
  λ none. let is_zero : a ≡ 0 = same_from_bits a 0 (λ p. rw (bit_at-zero p) (not_one (bit_at a p) (bit_at-lt a p) (none p))) in rw is_zero refl,
)

pub ruleset masks = (has_bit-zero, has_bit-and, has_bit-or, has_bit-minus, has_bit-one, has_bit-all, has_bit-at, has_bit-none)
