-- What the digits of a number lead to, step by step.
use Rattle.std.proofs.Common.{◌≡◌, ◌∙◌, ℕ, zero, suc, ◌+◌, ◌*◌, ◌/◌, ◌%◌, ◌<◌, ◌≤◌, List, length, refl, sym, ap, arith}
use Rattle.std.proofs.Common.{Bool, false, nat_eq, true≢false, subst, ◌-◌}
use Rattle.std.proofs.lemmas.List.{get_or_past}
use Rattle.bbm_page_map.specs.SlotNodes.{Fits, IsTree, reached, slot}

-- one step more
pub further : (slots : List ℕ) (d n node next : ℕ) → reached slots d (n / 64) ≡ node
    → next ≡ slot slots (64 * node + n % 64)
    → reached slots (suc d) n ≡ next
unfolding reached
further slots d n node next here is = ap (λ (k : ℕ). slot slots (64 * k + n % 64)) here ∙ sym is

-- the first node
pub first : (slots : List ℕ) (n : ℕ) → reached slots 0 n ≡ 1 + n
unfolding reached
first slots n = refl

-- a prefix with its last digit, and without it
pub fits_less : (d n : ℕ) → Fits (suc d) n → Fits d (n / 64)
unfolding Fits
fits_less d n fits = fits

pub fits_first : (n : ℕ) → Fits 0 n → n < 64
unfolding Fits
fits_first n fits = fits

pub fits_four : (n : ℕ) → Fits 4 n → n / 64 / 64 / 64 / 64 < 64
unfolding Fits
fits_four n fits = fits

-- a node that a prefix leads to has 64 slots
pub node_within : (slots : List ℕ) → IsTree slots → 0 < length slots → (d n node : ℕ) → d < 5 → Fits d n
    → reached slots d n ≡ node
    → 64 * node + 64 ≤ length slots
node_within slots tree some d n node low fits is = omega (arith, is, tree.within d n low fits some)

-- no slots lead anywhere
pub none_reached : (slots : List ℕ) → length slots ≡ 0 → (d n : ℕ) → reached slots (suc d) n ≡ 0
unfolding reached
none_reached slots none d n = get_or_past slots (64 * reached slots d (n / 64) + n % 64) 0 (omega arith)

-- there are some slots where there aren't none
pub some_slots : (n : ℕ) (b : Bool) → b ≡ nat_eq n 0 → b ≡ false → 0 < n
some_slots zero b is none = absurd (true≢false (sym is ∙ none))
some_slots (suc n) b is none = omega arith

-- The first five digits of a number, one after another: each leads to a node.
module _ (s : List ℕ) (tree : IsTree s) (some : 0 < length s) (n : ℕ) (fits : Fits 4 n) where
  fits_3 : Fits 3 (n / 64)
  fits_3 = fits_less 3 n fits

  fits_2 : Fits 2 (n / 64 / 64)
  fits_2 = fits_less 2 (n / 64) fits_3

  fits_1 : Fits 1 (n / 64 / 64 / 64)
  fits_1 = fits_less 1 (n / 64 / 64) fits_2

  pub node_0 : 64 * (1 + n / 64 / 64 / 64 / 64) + 64 ≤ length s
  node_0 =
      node_within s tree some 0 (n / 64 / 64 / 64 / 64) (1 + n / 64 / 64 / 64 / 64) (omega arith)
      (fits_less 0 (n / 64 / 64 / 64) fits_1) (first s (n / 64 / 64 / 64 / 64))

  module _ (a : ℕ) (is_a : a ≡ slot s (64 * (1 + n / 64 / 64 / 64 / 64) + n / 64 / 64 / 64 % 64)) where
    at_1 : reached s 1 (n / 64 / 64 / 64) ≡ a
    at_1 = further s 0 (n / 64 / 64 / 64) (1 + n / 64 / 64 / 64 / 64) a (first s (n / 64 / 64 / 64 / 64)) is_a

    pub node_1 : 64 * a + 64 ≤ length s
    node_1 = node_within s tree some 1 (n / 64 / 64 / 64) a (omega arith) fits_1 at_1

    module _ (b : ℕ) (is_b : b ≡ slot s (64 * a + n / 64 / 64 % 64)) where
      at_2 : reached s 2 (n / 64 / 64) ≡ b
      at_2 = further s 1 (n / 64 / 64) a b at_1 is_b

      pub node_2 : 64 * b + 64 ≤ length s
      node_2 = node_within s tree some 2 (n / 64 / 64) b (omega arith) fits_2 at_2

      module _ (c : ℕ) (is_c : c ≡ slot s (64 * b + n / 64 % 64)) where
        at_3 : reached s 3 (n / 64) ≡ c
        at_3 = further s 2 (n / 64) b c at_2 is_c

        pub node_3 : 64 * c + 64 ≤ length s
        node_3 = node_within s tree some 3 (n / 64) c (omega arith) fits_3 at_3

        pub at_4 : (d : ℕ) → d ≡ slot s (64 * c + n % 64) → reached s 4 n ≡ d
        at_4 d is_d = further s 3 n c d at_3 is_d

-- the same, where the number of digits is no sum
pub fits_up : (depth n : ℕ) → 0 < depth → Fits depth n → Fits (depth - 1) (n / 64)
fits_up depth n some fits = fits_less (depth - 1) n (subst (λ (k : ℕ). Fits k n) (omega arith) fits)

pub step_more : (slots : List ℕ) (depth n node next : ℕ) → 0 < depth → reached slots (depth - 1) (n / 64) ≡ node
    → next ≡ slot slots (64 * node + n % 64) → reached slots depth n ≡ next
step_more slots depth n node next some here is =
    ap (λ (k : ℕ). reached slots k n) (omega arith) ∙ further slots (depth - 1) n node next here is
