-- The declared roots of a history: how many there are, and the kind and the lock of the one of a page.
use Rattle.bbm_roots.proofs.Common.{◌≡◌, ℕ, ◌+◌, Bool, true, false, not, ◌&&◌, nat_eq, List, [], ◌∷◌, Option, nat_tests}
use Rattle.bbm_roots.proofs.Common.{option_and_then, Event, Root, Unroot, Declared, is_root, lock_of, retired, root_at}
use Rattle.bbm_roots.proofs.Common.{roots_of, None, length, cond, refl, ◌∙◌, ap, IsSome, arith, list_any}
use Rattle.bbm_roots.proofs.Common.{false≢true, Kind, Some, same_kind}
use Rattle.std.proofs.Common.{find}
use Rattle.bbm_rules.specs.Roots.{is_at}
use Rattle.bbm_histories.specs.ValueSteps.{is_root_after, root_after}
use Rattle.bbm_histories.proofs.ValueSteps.{is_root_step, root_step}

-- ---- how many there are

-- whether each root of the list has a page of its own
abbrev are_apart : List Declared → Bool
are_apart [] = true
are_apart (r ∷ rs) = not (list_any (is_at r.page) rs) && are_apart rs

pub absent-retired : (page : ℕ) (rs : List Declared) → find (is_at page) rs ≡ None → retired page rs ≡ rs
absent-retired page [] e = refl
absent-retired page (r ∷ rs) e = grind (arith, absent-retired page rs)

out-retired : (page q : ℕ) (rs : List Declared) → list_any (is_at q) rs ≡ false → list_any (is_at q) (retired page rs) ≡ false
out-retired page q [] e = refl
out-retired page q (r ∷ rs) e = grind (arith, out-retired page q rs)

gone-retired : (page : ℕ) (rs : List Declared) → list_any (is_at page) (retired page rs) ≡ false
gone-retired page [] = refl
gone-retired page (r ∷ rs) = grind (arith, gone-retired page rs)

apart-retired : (page : ℕ) (rs : List Declared) → are_apart rs ≡ true → are_apart (retired page rs) ≡ true
apart-retired page [] e = refl
apart-retired page (r ∷ rs) e = grind (arith, apart-retired page rs, out-retired page r.page rs)

none-found : (page : ℕ) (rs : List Declared) → list_any (is_at page) rs ≡ false → find (is_at page) rs ≡ None
none-found page [] e = refl
none-found page (r ∷ rs) e = grind (arith, none-found page rs)

-- one root is taken out
pub retired-length : (page : ℕ) (rs : List Declared) → are_apart rs ≡ true → IsSome (find (is_at page) rs) →
    length (retired page rs) + 1 ≡ length rs
retired-length page [] e f = absurd (false≢true f)
retired-length page (r ∷ rs) e f =
    grind (arith, nat_tests, retired-length page rs, absent-retired page rs, none-found page rs)

-- no two roots of a history have one page
pub roots-apart : (h : List Event) → are_apart (roots_of h) ≡ true
roots-apart [] = refl
roots-apart (Root pe kind lock page ∷ h) =
    grind (arith, gone-retired page (roots_of h), apart-retired page (roots_of h), roots-apart h)
roots-apart (Unroot pe page ∷ h) = apart-retired page (roots_of h) (roots-apart h)
roots-apart (e ∷ h) = roots-apart h

-- ---- the root of a page

-- whether there is a root and it is of the kind
abbrev pub is_of_kind : Kind → Option Declared → Bool
is_of_kind kind None = false
is_of_kind kind (Some r) = same_kind r.kind kind

pub kind-found : (h : List Event) (kind : Kind) (page : ℕ) → is_of_kind kind (root_at h page) ≡ is_root h kind page
kind-found [] kind page = refl
kind-found (e ∷ h) kind page =
    rw (root_step e h page, is_root_step kind page e h, ← kind-found h kind page) (after e)
  where
    after : (e : Event) → is_of_kind kind (root_after page e (root_at h page))
        ≡ is_root_after kind page e (is_of_kind kind (root_at h page))
    after (Root pe k lock at) = grind (arith)
    after (Unroot pe at) = grind (arith)
    after e = refl

-- where no root has a lock, none has one with another root, or none, at a page
abbrev lock_in : Option Declared → Option ℕ
lock_in o = option_and_then (λ (r : Declared). r.lock) o

pub unlocked : (h : List Event) (e : Event) (page : ℕ) (o : Option Declared)
    → ((q : ℕ) → root_after q e (root_at h q) ≡ cond (nat_eq page q) o (root_at h q)) → lock_in o ≡ None
    → ((q : ℕ) → lock_of h q ≡ None) → (q : ℕ) → lock_of (e ∷ h) q ≡ None
unlocked h e page o is lock none q =
    let unlocked_before : lock_in (root_at h q) ≡ None = none q in ap lock_in (root_step e h q ∙ is q) ∙ grind (arith)
