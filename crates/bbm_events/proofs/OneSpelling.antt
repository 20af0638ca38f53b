-- A number that is spelled is read again, and no other text is read as it; the same of a word.
use Rattle.bbm_events.proofs.Common.{◌≡◌, ℕ, ◌^◌, ◌<◌, List, [], ◌∷◌, Bool, true, false, ◌&&◌, cond, nat_lt, drop, refl}
use Rattle.bbm_events.proofs.Common.{ap, sym, ◌∙◌, Option, Some, None, arith, bytes_eq, decimal, digits_value}
use Rattle.bbm_events.proofs.Common.{bytes_eq-Decides, hex, where_spelled, with_word}
use Rattle.std.specs.Fmt.{digits}
use Rattle.std.proofs.lemmas.Bool.{lt-ltb}
use Rattle.std.proofs.lemmas.Fmt.{digits_is_IsNumeral, decimal_is_IsNumeral}
use Rattle.bbm_events.specs.Spelling.{decimal_value, hex_value}

cond_true : {A : Type 0} {a b : Bool} (x : Option A) → a ≡ true → b ≡ true → cond (a && b) x None ≡ x
cond_true x p q = rw (p, q) refl

spelled_read : (spelling : ℕ → List ℕ) (text : List ℕ) (m n : ℕ) → m ≡ n → n < 2 ^ 64 → spelling n ≡ text → where_spelled spelling text m ≡ Some n
spelled_read spelling text m n same below e =
    ap (λ (k : ℕ). where_spelled spelling text k) same
    ∙ cond_true (Some n) (lt-ltb n (2 ^ 64) below) ((bytes_eq-Decides (spelling n) text).1 e)

spelled_once : (spelling : ℕ → List ℕ) (text : List ℕ) (m : ℕ) {n : ℕ} → where_spelled spelling text m ≡ Some n → text ≡ spelling n
spelled_once spelling text m {n = n} e = by (nat_lt m (2 ^ 64)) (bytes_eq (spelling m) text) refl e
  where
    by : (a b : Bool) → bytes_eq (spelling m) text ≡ b → cond (a && b) (Some m) None ≡ Some n → text ≡ spelling n
    by true true is f = let same : m ≡ n = cc in sym ((bytes_eq-Decides (spelling m) text).0 is) ∙ ap spelling same
    by true false is f = cc
    by false b is f = cc

pub decimal_read : (n : ℕ) → n < 2 ^ 64 → decimal_value (decimal n) ≡ Some n
unfolding decimal_value
decimal_read n below = spelled_read decimal (decimal n) (digits_value 10 (decimal n)) n (decimal_is_IsNumeral n below).1 below refl

pub decimal_once : (text : List ℕ) {n : ℕ} → decimal_value text ≡ Some n → text ≡ decimal n
unfolding decimal_value
decimal_once text e = spelled_once decimal text (digits_value 10 text) e

pub hex_read : (n : ℕ) → n < 2 ^ 64 → hex_value (hex n) ≡ Some n
unfolding hex_value
hex_read n below =
    spelled_read hex (hex n) (digits_value 16 (digits 16 false n)) n
    (digits_is_IsNumeral 16 false (omega arith) (omega arith) n (omega arith)).1 below refl

pub hex_once : (text : List ℕ) {n : ℕ} → hex_value text ≡ Some n → text ≡ hex n
unfolding hex_value
hex_once text e = spelled_once hex text (digits_value 16 (drop 2 text)) e

-- a word that is read is the value's word
pub word_once : {A : Type 0} (word : A → List ℕ) (values : List A) (text : List ℕ) {value : A} → with_word word values text ≡ Some value → text ≡ word value
word_once word [] text e = cc
word_once {A = A} word (first ∷ others) text {value = value} e = by (bytes_eq (word first) text) refl (λ f. word_once word others text f) e
  where
    by : (t : Bool) → bytes_eq (word first) text ≡ t → (with_word word others text ≡ Some value → text ≡ word value)
        → cond t (Some first) (with_word word others text) ≡ Some value → text ≡ word value
    by true is later f = let same : first ≡ value = cc in sym ((bytes_eq-Decides (word first) text).0 is) ∙ ap word same
    by false is later f = later f
