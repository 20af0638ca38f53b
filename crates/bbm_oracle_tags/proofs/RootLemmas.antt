-- The declared roots, where one is taken out or declared anew.
use Rattle.bbm_rules.proofs.Common.{◌≡◌, ℕ, Bool, true, false, not, ◌&&◌, ◌||◌, cond, eqb, find, List, [], ◌∷◌, Option}
use Rattle.bbm_rules.proofs.Common.{Some, None, refl, sym, ap, ◌∙◌, list_any, eqb-true, eq-eqb, ne_eqb, false≢true}
use Rattle.bbm_rules.proofs.Common.{any-filter_same, or-false, Event, Root, Unroot, Declared, is_at, is_root, retired}
use Rattle.bbm_rules.proofs.Common.{root_at, roots_of, same_kind}
use Rattle.bbm_rules.specs.Prelude.{Kind}

-- the root of a page, where the root of another page is taken out, or its own
pub find-retired : (page q : ℕ) (rs : List Declared) →
    find (is_at q) (retired page rs) ≡ cond (eqb page q) None (find (is_at q) rs)
find-retired page q [] = by_case (eqb page q)
  where
    by_case : (b : Bool) → let o : Option Declared = None in o ≡ cond b None None
    by_case true = refl
    by_case false = refl
find-retired page q (r ∷ rs) = by_case (eqb r.page page) (eqb r.page q) (eqb page q) refl refl refl
    (find-retired page q rs)
  where
    by_case : (b c d : Bool) → eqb r.page page ≡ b → eqb r.page q ≡ c → eqb page q ≡ d →
        find (is_at q) (retired page rs) ≡ cond (eqb page q) None (find (is_at q) rs) →
        find (is_at q) (cond (not b) (r ∷ retired page rs) (retired page rs))
        ≡ cond d None (cond c (Some r) (find (is_at q) rs))
    by_case true true true e f g h = h ∙ ap (λ (x : Bool). cond x None (find (is_at q) rs)) g
    by_case true false true e f g h = h ∙ ap (λ (x : Bool). cond x None (find (is_at q) rs)) g
    by_case true true false e f g h =
        absurd (false≢true (sym g ∙ eq-eqb page q (sym (eqb-true r.page page e) ∙ eqb-true r.page q f)))
    by_case true false false e f g h = h ∙ ap (λ (x : Bool). cond x None (find (is_at q) rs)) g
    by_case false true true e f g h =
        absurd (false≢true (sym e ∙ eq-eqb r.page page (eqb-true r.page q f ∙ sym (eqb-true page q g))))
    by_case false false true e f g h =
        ap (λ (x : Bool). cond x (Some r) (find (is_at q) (retired page rs))) f
        ∙ h ∙ ap (λ (x : Bool). cond x None (find (is_at q) rs)) g
    by_case false true false e f g h = ap (λ (x : Bool). cond x (Some r) (find (is_at q) (retired page rs))) f
    by_case false false false e f g h =
        ap (λ (x : Bool). cond x (Some r) (find (is_at q) (retired page rs))) f
        ∙ h ∙ ap (λ (x : Bool). cond x None (find (is_at q) rs)) g

pub find-declared : (r : Declared) (q : ℕ) (rs : List Declared) →
    find (is_at q) (r ∷ retired r.page rs) ≡ cond (eqb r.page q) (Some r) (find (is_at q) rs)
find-declared r q rs = ap (λ (o : Option Declared). cond (eqb r.page q) (Some r) o) (find-retired r.page q rs)
    ∙ by_case (eqb r.page q)
  where
    by_case : (b : Bool) → cond b (Some r) (cond b None (find (is_at q) rs)) ≡ cond b (Some r) (find (is_at q) rs)
    by_case true = refl
    by_case false = refl

-- whether a page is the first of a root of a kind
abbrev test : Kind → ℕ → Declared → Bool
test kind q r = is_at q r && same_kind r.kind kind

at-page : (kind : Kind) (q : ℕ) (r : Declared) → test kind q r ≡ true → eqb r.page q ≡ true
at-page kind q r e = by_case (eqb r.page q) e
  where
    by_case : (b : Bool) → (b && same_kind r.kind kind) ≡ true → b ≡ true
    by_case true e = refl
    by_case false e = e

pub any-retired : (kind : Kind) (page q : ℕ) (rs : List Declared) →
    list_any (test kind q) (retired page rs) ≡ (not (eqb page q) && list_any (test kind q) rs)
any-retired kind page q rs = any-filter_same (test kind q) (λ r. not (is_at page r)) (not (eqb page q))
    (λ r e. let same : r.page ≡ q = eqb-true r.page q (at-page kind q r e) in ap not (by_eq r same)) rs
  where
    swap : (a b : ℕ) → eqb a b ≡ eqb b a
    swap a b = by_case (eqb a b) (eqb b a) refl refl
      where
        by_case : (x y : Bool) → eqb a b ≡ x → eqb b a ≡ y → x ≡ y
        by_case true true e f = refl
        by_case false false e f = refl
        by_case true false e f = sym (sym f ∙ eq-eqb b a (sym (eqb-true a b e)))
        by_case false true e f = sym e ∙ eq-eqb a b (sym (eqb-true b a f))

    by_eq : (r : Declared) → r.page ≡ q → eqb r.page page ≡ eqb page q
    by_eq r same = ap (λ (n : ℕ). eqb n page) same ∙ swap q page

pub any-declared : (kind declared : Kind) (lock : Option ℕ) (page q : ℕ) (rs : List Declared) →
    list_any (test kind q) (record { page = page; kind = declared; lock = lock } ∷ retired page rs)
    ≡ cond (eqb page q) (same_kind declared kind) (list_any (test kind q) rs)
any-declared kind declared lock page q rs =
    ap (λ (b : Bool). (eqb page q && same_kind declared kind) || b) (any-retired kind page q rs) ∙ by_case (eqb page q)
  where
    by_case : (b : Bool) → ((b && same_kind declared kind) || (not b && list_any (test kind q) rs))
        ≡ cond b (same_kind declared kind) (list_any (test kind q) rs)
    by_case true = or-false (same_kind declared kind)
    by_case false = refl

-- ---- the definitions after one more event

pub root-here : (h : List Event) (pe : ℕ) (declared kind : Kind) (lock : Option ℕ) (at page : ℕ) → at ≡ page
    → same_kind declared kind ≡ is_root (Root pe declared lock at ∷ h) kind page
root-here h pe declared kind lock at page same = sym (any-declared kind declared lock at page (roots_of h)
    ∙ ap (λ (b : Bool). cond b (same_kind declared kind) (list_any (test kind page) (roots_of h)))
    (eq-eqb at page same))

pub root-elsewhere : (h : List Event) (pe : ℕ) (declared kind : Kind) (lock : Option ℕ) (at page : ℕ) → (at ≡ page → ⊥)
    → is_root h kind page ≡ is_root (Root pe declared lock at ∷ h) kind page
root-elsewhere h pe declared kind lock at page apart = sym (any-declared kind declared lock at page (roots_of h)
    ∙ ap (λ (b : Bool). cond b (same_kind declared kind) (list_any (test kind page) (roots_of h)))
    (ne_eqb at page apart))

pub retired-here : (h : List Event) (pe : ℕ) (kind : Kind) (at page : ℕ) → at ≡ page
    → false ≡ is_root (Unroot pe at ∷ h) kind page
retired-here h pe kind at page same = sym (any-retired kind at page (roots_of h)
    ∙ ap (λ (b : Bool). not b && list_any (test kind page) (roots_of h)) (eq-eqb at page same))

pub retired-elsewhere : (h : List Event) (pe : ℕ) (kind : Kind) (at page : ℕ) → (at ≡ page → ⊥)
    → is_root h kind page ≡ is_root (Unroot pe at ∷ h) kind page
retired-elsewhere h pe kind at page apart = sym (any-retired kind at page (roots_of h)
    ∙ ap (λ (b : Bool). not b && list_any (test kind page) (roots_of h)) (ne_eqb at page apart))

pub found-elsewhere : (h : List Event) (pe : ℕ) (kind : Kind) (lock : Option ℕ) (at page : ℕ) → (at ≡ page → ⊥)
    → root_at h page ≡ root_at (Root pe kind lock at ∷ h) page
found-elsewhere h pe kind lock at page apart =
    sym (find-declared (record { page = at; kind = kind; lock = lock }) page (roots_of h)
    ∙ ap (λ (b : Bool). cond b (Some (record { page = at; kind = kind; lock = lock })) (root_at h page))
    (ne_eqb at page apart))

pub none-here : (h : List Event) (pe at page : ℕ) → at ≡ page → None ≡ root_at (Unroot pe at ∷ h) page
none-here h pe at page same = sym (find-retired at page (roots_of h)
    ∙ ap (λ (b : Bool). cond b None (root_at h page)) (eq-eqb at page same))

pub kept-elsewhere : (h : List Event) (pe at page : ℕ) → (at ≡ page → ⊥)
    → root_at h page ≡ root_at (Unroot pe at ∷ h) page
kept-elsewhere h pe at page apart = sym (find-retired at page (roots_of h)
    ∙ ap (λ (b : Bool). cond b None (root_at h page)) (ne_eqb at page apart))
