-- How far items cover a place.
use Rattle.bbm_place_map.proofs.Common.{◌≡◌, ℕ, ◌+◌, ◌<◌, Bool, true, false, nat_eq, suc, List, [], ◌∷◌, length, ◌++◌}
use Rattle.bbm_place_map.proofs.Common.{drop, take, get_or, refl, arith, ap, sym, ◌∙◌, inl, inr, ◌||◌, if◌then◌else◌}
use Rattle.bbm_place_map.proofs.Common.{cases_Bool, cond-true, cond-false, eq-eqb, eqb-true, false≢true, proved, If, Is}
use Rattle.bbm_place_map.proofs.Common.{Cover, cover_in, is_found, FoundAs, Found, NoCover}
use Rattle.std.proofs.Common.{add-one}
use Rattle.std.proofs.Math.Seq.{take-suc}
use Rattle.std.proofs.lemmas.List.{take-append-drop}
use mathlib.Core.Bool.{or-false, or-true}

pub cover_none : (xs : List Found) (a : ℕ) → is_found xs a ≡ false → cover_in xs a ≡ NoCover
cover_none [] a none = refl
cover_none (x ∷ xs) a none =
    elim (nat_eq x.place a) as (λ b. (b || is_found xs a) ≡ false → (if b then x.cover else cover_in xs a) ≡ NoCover)
    [ true ↦ λ h. absurd (false≢true (sym h)) | false ↦ cover_none xs a ] none

pub cover_is : (f : ℕ → Cover) (xs : List Found) → FoundAs xs f → (a : ℕ) → is_found xs a ≡ true → cover_in xs a ≡ f a
cover_is f [] fits a found = absurd (false≢true found)
cover_is f (x ∷ xs) fits a found =
    elim (cases_Bool (nat_eq x.place a)) [
      | inl is ↦ cond-true (nat_eq x.place a) x.cover (cover_in xs a) is ∙ fits 0 x (omega arith) ∙ ap f (eqb-true x.place a is)
      | inr other ↦ cond-false (nat_eq x.place a) x.cover (cover_in xs a) other
          ∙ cover_is f xs (λ k d h. fits (suc k) d (omega arith)) a (sym (ap (λ (b : Bool). b || is_found xs a) other) ∙ found)
    ]

pick : (b c : Bool) (u v w z : Cover) → v ≡ (if c then w else z) → (if b then u else v) ≡ (if b || c then (if b then u else w) else z)
pick true c u v w z h = refl
pick false c u v w z h = h

-- of items one after another
pub cover_append : (xs ys : List Found) (a : ℕ) → cover_in (xs ++ ys) a ≡ (if is_found xs a then cover_in xs a else cover_in ys a)
cover_append [] ys a = refl
cover_append (x ∷ xs) ys a =
    pick (nat_eq x.place a) (is_found xs a) x.cover (cover_in (xs ++ ys) a) (cover_in xs a) (cover_in ys a) (cover_append xs ys a)

or_or : (b c d e : Bool) → c ≡ (d || e) → (b || c) ≡ ((b || d) || e)
or_or = proved 4 (λ b c d e. If (Is c (d || e)) (Is (b || c) ((b || d) || e))) refl

pub found_append : (xs ys : List Found) (a : ℕ) → is_found (xs ++ ys) a ≡ (is_found xs a || is_found ys a)
found_append [] ys a = refl
found_append (x ∷ xs) ys a = or_or (nat_eq x.place a) (is_found (xs ++ ys) a) (is_found xs a) (is_found ys a) (found_append xs ys a)

-- one more item
pub take_more : (xs : List Found) (i : ℕ) (x : Found) → i < length xs → x ≡ get_or xs i x → take (i + 1) xs ≡ take i xs ++ x ∷ []
take_more xs i x within is =
    ap (λ (n : ℕ). take n xs) (add-one i) ∙ take-suc xs i x within ∙ ap (λ (y : Found). take i xs ++ y ∷ []) (sym is)

module _ (xs : List Found) (x : Found) (a : ℕ) where
  pub found_off : nat_eq x.place a ≡ false → is_found (xs ++ x ∷ []) a ≡ is_found xs a
  found_off off = found_append xs (x ∷ []) a ∙ ap (λ (b : Bool). is_found xs a || (b || false)) off ∙ or-false (is_found xs a)

  pub found_here : nat_eq x.place a ≡ true → is_found (xs ++ x ∷ []) a ≡ true
  found_here is = found_append xs (x ∷ []) a ∙ ap (λ (b : Bool). is_found xs a || (b || false)) is ∙ or-true (is_found xs a)

  pub cover_old : is_found xs a ≡ true → cover_in (xs ++ x ∷ []) a ≡ cover_in xs a
  cover_old old = cover_append xs (x ∷ []) a ∙ cond-true (is_found xs a) (cover_in xs a) (cover_in (x ∷ []) a) old

  cover_new : is_found xs a ≡ false → cover_in (xs ++ x ∷ []) a ≡ cover_in (x ∷ []) a
  cover_new new = cover_append xs (x ∷ []) a ∙ cond-false (is_found xs a) (cover_in xs a) (cover_in (x ∷ []) a) new

  pub cover_here : is_found xs a ≡ false → nat_eq x.place a ≡ true → cover_in (xs ++ x ∷ []) a ≡ x.cover
  cover_here new is = cover_new new ∙ cond-true (nat_eq x.place a) x.cover NoCover is

  pub cover_off : nat_eq x.place a ≡ false → cover_in (xs ++ x ∷ []) a ≡ cover_in xs a
  cover_off off =
      elim (cases_Bool (is_found xs a)) [
        | inl old ↦ cover_old old
        | inr new ↦ cover_new new ∙ cond-false (nat_eq x.place a) x.cover NoCover off ∙ sym (cover_none xs a new)
      ]

-- what is among the first items is among all
pub found_within : (xs : List Found) (n a : ℕ) → is_found (take n xs) a ≡ true → is_found xs a ≡ true
found_within xs n a h =
    ap (λ (ys : List Found). is_found ys a) (sym (take-append-drop n xs)) ∙ found_append (take n xs) (drop n xs) a
    ∙ ap (λ (b : Bool). b || is_found (drop n xs) a) h

pub found_at : (xs : List Found) (i : ℕ) (x : Found) → i < length xs → x ≡ get_or xs i x → is_found xs x.place ≡ true
found_at xs i x within is =
    found_within xs (i + 1) x.place
    (ap (λ (ys : List Found). is_found ys x.place) (take_more xs i x within is) ∙ found_here (take i xs) x x.place (eq-eqb x.place x.place refl))
