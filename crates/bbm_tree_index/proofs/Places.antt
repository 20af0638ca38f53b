-- The places of a page.
use Rattle.bbm_tree_index.proofs.Common.{is_at}
use Rattle.bbm_rules.proofs.Common.{◌≡◌, ℕ, ◌<◌, ◌+◌, ◌*◌, ◌/◌, ◌%◌, true, sym, subst, arith, nat_tests, page_of}

pub number_below : (a : ℕ) → a % 4096 / 8 < 512
number_below a = omega arith

pub at_page : (page a : ℕ) → is_at page a ≡ true → page_of a ≡ page
at_page page a e = grind (arith, nat_tests)

-- a place is the one of its number in its page
pub place_is : (page a : ℕ) → is_at page a ≡ true → a ≡ page + 8 * (a % 4096 / 8)
place_is page a e = grind (arith, nat_tests)

-- and the place of a number is in the page
pub number_at : (page j : ℕ) → page % 4096 ≡ 0 → j < 512 → is_at page (page + 8 * j) ≡ true
number_at page j aligned below = grind (arith, nat_tests)

-- what holds of each number of a page holds of each place of it
pub each_place : (page : ℕ) (P : ℕ → Type 0) → ((j : ℕ) → j < 512 → P (page + 8 * j)) → (a : ℕ) → is_at page a ≡ true → P a
each_place page P h a e = subst P (sym (place_is page a e)) (h (a % 4096 / 8) (number_below a))
