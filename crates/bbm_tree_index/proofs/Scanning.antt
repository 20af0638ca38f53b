-- The places of a page, one after the other.
use Rattle.bbm_tree_index.proofs.Common.{is_at, Counts, Partly, Mark, scanned}
use Rattle.bbm_rules.proofs.Common.{◌≡◌, ℕ, ◌<◌, ◌≤◌, ◌+◌, ◌*◌, Bool, true, false, ◌||◌, ◌==◌, List, Option, sym, ◌∙◌}
use Rattle.bbm_rules.proofs.Common.{arith, nat_tests, index_of, page_of, Node}
use Rattle.bbm_tree_index.proofs.Counting.{marks_same}

pub not_scanned : (p j : ℕ) → is_at p (p + 8 * j) ≡ true → scanned p j (p + 8 * j) ≡ false
not_scanned p j inside = grind (arith, nat_tests)

pub scan_more : (p j : ℕ) → is_at p (p + 8 * j) ≡ true → (done : ℕ → Bool) (page a : ℕ) → is_at page a ≡ true
    → (done a || scanned p (j + 1) a) ≡ ((done a || scanned p j a) || a == p + 8 * j)
scan_more p j inside done page a at = grind (arith, nat_tests)

pub scan_none : (p : ℕ) (done : ℕ → Bool) (a : ℕ) → (done a || scanned p 0 a) ≡ done a
scan_none p done a = grind (arith, nat_tests)

pub scan_all : (p n : ℕ) → 512 ≤ n → (done : ℕ → Bool) (a : ℕ) → (done a || page_of a == p) ≡ (done a || scanned p n a)
scan_all p n end done a = grind (arith, nat_tests)

-- tests that agree on places give the same marks
pub alike : (fresh : ℕ → Bool) (value : ℕ → ℕ) (starts : List Node) (k : ℕ) (done done' : ℕ → Bool)
    → ((page a : ℕ) → is_at page a ≡ true → done' a ≡ done a) → (g : ℕ → Option Mark)
    → ((q : ℕ) → Counts (Partly fresh value starts k done) q (g q)) → (q : ℕ) → Counts (Partly fresh value starts k done') q (g q)
alike fresh value starts k done done' same = marks_same fresh value starts k done done'
    (λ n m a s. let e = same n.page a s.inside in ((λ t. e ∙ t), (λ t. sym e ∙ t)))

abbrev Agree : Bool → Bool → Type 0
Agree x y = (x ≡ true → y ≡ true) × (y ≡ true → x ≡ true)

-- places with the value 0, and those of a page that leads nowhere, may be done
pub skipped : (value : ℕ → ℕ) (p from page a : ℕ) (d : Bool) → ((j : ℕ) → from ≤ j → j < from + 8 → value (p + 8 * j) ≡ 0)
    → is_at page a ≡ true → (value a ≡ 0 → ⊥) → Agree (d || scanned p from a) (d || scanned p (from + 8) a)
skipped value p from page a d none at some = grind (arith, nat_tests, none (index_of a))

pub page_done : (page page' a : ℕ) (d : Bool) → is_at page' a ≡ true → (page' ≡ page → ⊥) → Agree d (d || page_of a == page)
page_done page page' a d at other = grind (arith, nat_tests)
