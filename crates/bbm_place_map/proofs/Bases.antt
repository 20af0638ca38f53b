-- Where the values of pages start, by the numbers of the pages.
use Rattle.bbm_place_map.proofs.Common.{◌≡◌, ◌∙◌, ℕ, ◌+◌, ◌*◌, ◌/◌, ◌%◌, ◌≤◌, ◌++◌, ◌∷◌, [], Bool, true, false, List}
use Rattle.bbm_place_map.proofs.Common.{length, Option, Some, None, refl, ap, sym, arith, nat_eq, if◌then◌else◌}
use Rattle.bbm_place_map.proofs.Common.{option_map, same_Some, none-some, vec_len, Numbered, index_of, bases, number_in}
use Rattle.bbm_place_map.proofs.Common.{PlaceMap, subst, IsKept, IsOnce}
use Rattle.bbm_page_map.proofs.Numbering.{number_is, number_push, number_within}
use Rattle.bbm_place_map.proofs.Places.{index_from}

based : (o : Option ℕ) (b : ℕ) → option_map (λ n. 512 * n) o ≡ Some b → (n : ℕ) × (o ≡ Some n) × (512 * n ≡ b)
based None b h = absurd (none-some b h)
based (Some n) b h = (n, refl, same_Some (512 * n) b h)

-- the number of a page whose values start there
base_number : (pages : List ℕ) (p b : ℕ) → bases pages p ≡ Some b → (n : ℕ) × (number_in pages p ≡ Some n) × (512 * n ≡ b)
base_number pages p b is = based (number_in pages p) b is

pub base_first : (pages : List ℕ) (p b : ℕ) → bases pages p ≡ Some b → b % 512 ≡ 0
base_first pages p b is = let n = base_number pages p b is in omega (arith, n.2)

pub numbered_in : (map : PlaceMap) → Numbered (bases map.pages) (vec_len map.values)
numbered_in map = record {
  within = λ p b is.
      let n = base_number map.pages p b is in
      omega (arith, map.counted, n.2, number_within map.pages p n.0 n.1);
  apart = λ p q b c is is' low high.
      let n = base_number map.pages p b is in
      let m = base_number map.pages q c is' in
      let same : n.0 ≡ m.0 = omega (arith, n.2, m.2, low, high) in
      same_Some p q (sym (number_is map.pages p n.0 n.1) ∙ number_is map.pages q n.0 (m.1 ∙ ap (λ (k : ℕ). Some k) (sym same)));
}

pub is_kept : (map : PlaceMap) → IsOnce map.broken → IsKept (bases map.pages) map.broken
is_kept map once =
    let N : ℕ → Type 0 = Numbered (bases map.pages) in
    record { once = once; numbered = subst N (omega (arith, map.counted, map.paged)) (numbered_in map); placed = map.placed }

pub base_none : (pages : List ℕ) (p : ℕ) → number_in pages p ≡ None → bases pages p ≡ None
base_none pages p none = ap (option_map (λ n. 512 * n)) none

-- one page more
pub bases_more : (pages : List ℕ) (p q : ℕ) → number_in pages p ≡ None
    → bases (pages ++ p ∷ []) q ≡ (if nat_eq p q then Some (512 * length pages) else bases pages q)
bases_more pages p q none = ap (option_map (λ n. 512 * n)) (number_push pages p q none) ∙ pull (nat_eq p q)
  where
    pull : (b : Bool) → option_map (λ n. 512 * n) (if b then Some (length pages) else number_in pages q)
        ≡ (if b then Some (512 * length pages) else bases pages q)
    pull true = refl
    pull false = refl

-- the number of a place's page tells that of its value
pub index_of_number : (pages : List ℕ) (a n : ℕ) → a % 8 ≡ 0 → number_in pages (a / 4096 * 4096) ≡ Some n
    → index_of (bases pages) a ≡ Some (512 * n + a % 4096 / 8)
index_of_number pages a n aligned is = index_from (bases pages) a (512 * n) aligned (ap (option_map (λ n. 512 * n)) is)

-- a page that has a number has its 512 values
pub room_of : (map : PlaceMap) (p n : ℕ) → number_in map.pages p ≡ Some n → 512 * n + 512 ≤ vec_len map.values
room_of map p n is = omega (arith, map.counted, number_within map.pages p n is)
