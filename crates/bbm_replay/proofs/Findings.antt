-- Places that are found, each with its cover.
use Rattle.bbm_replay.proofs.Common.{IsCovered, restless_place, Covering, FoundAs, is_found, Found, Grows, IsSettled}
use Rattle.bbm_replay.proofs.Common.{PlaceMap, notes}
use Rattle.bbm_rules.proofs.Common.{◌≡◌, ℕ, zero, suc, Bool, true, false, List, [], ◌∷◌, ◌++◌, Option, Some, Result, Ok}
use Rattle.bbm_rules.proofs.Common.{Err, refl, subst, not-suc-le-zero, le_of_suc-le-suc, slice_get, length, ◌<◌, proved}
use Rattle.bbm_rules.proofs.Common.{If, Is, Cover, Patterns, cover_at, Core, Tlbi, sym, ◌∙◌, true≢false, arith}
use Rattle.bbm_rules.proofs.Common.{nat_tests}
use Rattle.bbm_replay.specs.Covering.{IsBrokenOver}
use Rattle.std.specs.Prelude.{IfSome, OnOk}
use Rattle.std.proofs.lemmas.List.Elements.{All-append}

pub on_ok : {A E : Type 0} (r : Result A E) {P Q : Type 0} → OnOk r P → (P → Q) → OnOk r Q
on_ok (Ok x) p f = f p
on_ok (Err x) p f = tt

pub if_some : {A : Type 0} (P : A → Type 0) (o : Option A) (x : A) → o ≡ Some x → IfSome o P → P x
if_some P o x e p = subst (λ y. IfSome y P) e p

-- an element before the end, and the one at the end
pub at_end : {X : Type 0} (xs : List X) (x : X) → slice_get (xs ++ x ∷ []) (length xs) ≡ Some x
at_end [] x = refl
at_end (y ∷ ys) x = at_end ys x

pub before_end : {X : Type 0} (xs : List X) (x : X) (i : ℕ) → i < length xs → slice_get (xs ++ x ∷ []) i ≡ slice_get xs i
before_end [] x i below = absurd (not-suc-le-zero below)
before_end (y ∷ ys) x zero below = refl
before_end (y ∷ ys) x (suc i) below = before_end ys x i (le_of_suc-le-suc below)

pub as_end : (xs : List Found) (x : Found) (f : ℕ → Cover) → FoundAs xs f → x.cover ≡ f x.place → FoundAs (xs ++ x ∷ []) f
as_end xs x f all e = All-append (λ (y : Found). y.cover ≡ f y.place) xs (x ∷ []) all one
  where
    one : FoundAs (x ∷ []) f
    one zero d below = e
    one (suc k) d below = absurd (not-suc-le-zero (le_of_suc-le-suc below))

pub found_end : (xs : List Found) (x : Found) → is_found (xs ++ x ∷ []) x.place ≡ true
found_end [] x = grind (arith, nat_tests)
found_end (y ∷ ys) x = grind (arith, found_end ys x)

pub found_before : (xs : List Found) (x : Found) (a : ℕ) → is_found xs a ≡ true → is_found (xs ++ x ∷ []) a ≡ true
found_before [] x a e = absurd cc
found_before (y ∷ ys) x a e = grind (arith, found_before ys x a)

missing : (old new : Bool) → (old ≡ true → new ≡ true) → new ≡ false → old ≡ false
missing = proved 2 (λ o n. If (If (Is o true) (Is n true)) (If (Is n false) (Is o false))) refl

-- a place that is settled stays so
pub settled_more : (map : PlaceMap) (by : Covering) (old new : List Found) → Grows map by old new → (a : ℕ)
    → IsSettled map by old a → IsSettled map by new a
settled_more map by old new grows a settled broken none =
    settled broken (missing (is_found old a) (is_found new a) (grows.1 a) none)

-- one place more that was found
module _ (map : PlaceMap) (by : Covering) (old new : List Found) (item : Found) (more : new ≡ old ++ item ∷ []) where
  pub grows_by : IsCovered map by item.cover item.place → Grows map by old new
  grows_by covered = (
    λ all heading h pe op xt m.
        subst (λ (xs : List Found). FoundAs xs (cover_at heading Patterns (notes heading h) (Tlbi pe op xt))) (sym more)
        (as_end old item (cover_at heading Patterns (notes heading h) (Tlbi pe op xt)) (all heading h pe op xt m)
        (covered heading h pe op xt m)),
    λ a has. subst (λ (xs : List Found). is_found xs a ≡ true) (sym more) (found_before old item a has),
  )

  pub settled_by : IsSettled map by new item.place
  settled_by broken none =
      absurd (true≢false (sym (subst (λ (xs : List Found). is_found xs item.place ≡ true) (sym more)
      (found_end old item)) ∙ none))

-- how far a broken place is covered, by its number
pub covered_at : (map : PlaceMap) (by : Covering) (cover : Cover) (number place : ℕ) (core : Core)
    → place ≡ restless_place map number → IsBrokenOver map (restless_place map number) core
    → (IsBrokenOver map place core → IsCovered map by cover place)
    → IsCovered map by cover (restless_place map number)
covered_at map by cover number place core here over covered =
    subst (IsCovered map by cover) here (covered (subst (λ a. IsBrokenOver map a core) (sym here) over))
