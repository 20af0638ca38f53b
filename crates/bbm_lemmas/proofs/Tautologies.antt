-- What is true of Booleans in all cases is true: a statement about so many of them is written as a value, and tried in
-- each case by computation. `proved 2 (λ x y. If (Is (x && y) true) (Is x true)) refl` is a proof of
-- `(x y : Bool) → (x && y) ≡ true → x ≡ true`.
use Rattle.std.proofs.Common.{◌≡◌, ℕ, zero, suc, Bool, true, false, not, ◌&&◌, ◌||◌, ◌⊎◌, inl, inr, refl, sym}
use Rattle.std.proofs.Common.{true≢false}
use Rattle.std.proofs.lemmas.Bool.{and_from, and_parts, or_left, or_right}

-- A statement, without variables.
pub data Claim : Type 0 where
  Is : Bool → Bool → Claim
  If : Claim → Claim → Claim
  Both : Claim → Claim → Claim
  Either : Claim → Claim → Claim
  Never : Claim

-- What it says.
abbrev pub Says : Claim → Type 0
Says (Is x y) = x ≡ y
Says (If c d) = Says c → Says d
Says (Both c d) = Says c × Says d
Says (Either c d) = Says c ⊎ Says d
Says Never = ⊥

abbrev same : Bool → Bool → Bool
same true y = y
same false y = not y

-- Whether it holds.
abbrev pub holds : Claim → Bool
holds (Is x y) = same x y
holds (If c d) = not (holds c) || holds d
holds (Both c d) = holds c && holds d
holds (Either c d) = holds c || holds d
holds Never = false

-- A statement about so many Booleans, what it says of all, and whether it holds in all cases.
abbrev pub Of : ℕ → Type 0
Of zero = Claim
Of (suc n) = Bool → Of n

abbrev pub SaysOf : (n : ℕ) → Of n → Type 0
SaysOf zero c = Says c
SaysOf (suc n) c = (x : Bool) → SaysOf n (c x)

abbrev pub in_all_cases : (n : ℕ) → Of n → Bool
in_all_cases zero c = holds c
in_all_cases (suc n) c = in_all_cases n (c true) && in_all_cases n (c false)

is_same : (x y : Bool) → same x y ≡ true → x ≡ y
is_same true true e = refl
is_same true false e = absurd (true≢false (sym e))
is_same false true e = absurd (true≢false (sym e))
is_same false false e = refl

same_is : (x y : Bool) → x ≡ y → same x y ≡ true
same_is true true e = refl
same_is true false e = absurd (true≢false e)
same_is false true e = absurd (true≢false (sym e))
same_is false false e = refl

-- a statement that holds is so, and one that is so holds
tells : (c : Claim) → (holds c ≡ true → Says c) × (Says c → holds c ≡ true)
tells (Is x y) = (is_same x y, same_is x y)
tells (If c d) = (
  λ e s. (tells d).0 (after (holds c) (holds d) e ((tells c).1 s)),
  λ f. from (holds c) (holds d) refl
      (λ h. (tells d).1 (f ((tells c).0 h))),
)
  where
    after : (x y : Bool) → (not x || y) ≡ true → x ≡ true → y ≡ true
    after true y either given = either
    after false y either given = absurd (true≢false (sym given))

    from : (x y : Bool) → holds c ≡ x → (holds c ≡ true → y ≡ true) → (not x || y) ≡ true
    from true y is then = then is
    from false y is then = refl
tells (Both c d) = (
  λ e. let parts = and_parts (holds c) (holds d) e in ((tells c).0 parts.0, (tells d).0 parts.1),
  λ s. and_from (holds c) (holds d) ((tells c).1 s.0) ((tells d).1 s.1),
)
tells (Either c d) = (λ e. one (holds c) refl e (tells c).0 (tells d).0, λ s. either s (tells c).1 (tells d).1)
  where
    one : (x : Bool) → holds c ≡ x → (x || holds d) ≡ true → (holds c ≡ true → Says c) → (holds d ≡ true → Says d)
        → Says c ⊎ Says d
    one true h e left right = inl (left h)
    one false h e left right = inr (right e)

    either : Says c ⊎ Says d → (Says c → holds c ≡ true) → (Says d → holds d ≡ true) → (holds c || holds d) ≡ true
    either (inl s) left right = or_left (holds c) (holds d) (left s)
    either (inr s) left right = or_right (holds c) (holds d) (right s)
tells Never = (λ e. true≢false (sym e), λ never. absurd never)

pub proved : (n : ℕ) (c : Of n) → in_all_cases n c ≡ true → SaysOf n c
proved zero c e = (tells c).0 e
proved (suc n) c e = each (proved n (c true) parts.0) (proved n (c false) parts.1)
  where
    parts : (in_all_cases n (c true) ≡ true) × (in_all_cases n (c false) ≡ true)
    parts = and_parts (in_all_cases n (c true)) (in_all_cases n (c false)) e

    each : SaysOf n (c true) → SaysOf n (c false) → (x : Bool) → SaysOf n (c x)
    each is_true is_false true = is_true
    each is_true is_false false = is_false
