-- Equations of tests.
use Rattle.bbm_rules.proofs.Common.{◌≡◌, Bool, true, false, not, ◌&&◌, ◌||◌, refl, proved, Is}

-- one moment more at which the tag is readable
pub read-later : (c r k s u : Bool) → (c && (r && (k && not (s || u)))) ≡ (not s && (c && (r && (k && not u))))
read-later = proved 5 (λ c r k s u. Is (c && (r && (k && not (s || u)))) (not s && (c && (r && (k && not u))))) refl

pub read-now : (c r k s : Bool) → (c && (r && (k && not (s || false)))) ≡ (not s && (c && (r && k)))
read-now = proved 4 (λ c r k s. Is (c && (r && (k && not (s || false)))) (not s && (c && (r && k)))) refl

-- a broadcast TLBI, one that isn't, and no TLBI
pub taken-broadcast : (a f r k n : Bool) → ((((a && r) && k) && n) && true)
    ≡ ((a && (true && (r && (k && n)))) || (f && (false && (r && (k && n)))))
taken-broadcast = proved 5 (λ a f r k n. Is ((((a && r) && k) && n) && true) ((a && (true && (r && (k && n)))) || (f &&
    (false && (r && (k && n)))))) refl

pub taken-local : (a f r k n : Bool) → ((((f && r) && k) && n) && true)
    ≡ ((a && (false && (r && (k && n)))) || (f && (true && (r && (k && n)))))
taken-local = proved 5 (λ a f r k n. Is ((((f && r) && k) && n) && true) ((a && (false && (r && (k && n)))) || (f &&
    (true && (r && (k && n)))))) refl
