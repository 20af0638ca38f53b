-- Tests of tags and of sets of PEs, what a test finds in a list and in the front of it, and the least of what passes one.
use Rattle.bbm_roots.proofs.Common.{pe_finds, pe_none, tag_equal, tag_self, ◌≡◌, ℕ, ◌<◌, Bool, true, false, ◌&&◌, not}
use Rattle.bbm_roots.proofs.Common.{any_found, any_finds, eqb-true, subst, arith, nat_lt, nat_eq, refl, sym, ◌∙◌, ap}
use Rattle.bbm_roots.proofs.Common.{true_from_ne_false, false≢true, lt-ltb, ltb-true, proved, If, Is, Tag}
use Rattle.bbm_roots.proofs.Common.{some_pe, same_tag, first_true, zero, suc, ◌+◌, ◌||◌, List}
use Rattle.bbm_roots.proofs.Common.{[], ◌∷◌, length, take, get_or, list_any, Option, Some, None, TagSet, Many, HasTags}
use Rattle.bbm_roots.proofs.Common.{IsLeast, flat_map, list_all}
use Rattle.std.proofs.Common.{IsTrue}
use Rattle.std.proofs.lemmas.List.Folds.{list_all-append, list_any_more}
use Rattle.bbm_tlbi_scope.specs.declared.entry.TagSet.TheVariants.{None as NoTag, One}

-- where no PE below n passes, this one doesn't
pub none_at : (n : ℕ) (test : ℕ → Bool) (p : ℕ) → some_pe n test ≡ false → p < n → test p ≡ false
none_at n test p e lt = grind (arith, pe_finds n test p lt)

-- whether the common part with the first n PEs is empty
pub some_pe-empty : (n : ℕ) (test both : ℕ → Bool) (r : Bool) → ((p : ℕ) → both p ≡ (test p && nat_lt p n)) →
    (IsTrue r → (p : ℕ) → both p ≡ false) → (((p : ℕ) → both p ≡ false) → IsTrue r) → not r ≡ some_pe n test
some_pe-empty n test both true same none all =
    sym (pe_none n test (λ p lt. let k = same p in let e = none refl p in grind (arith, lt-ltb)))
some_pe-empty n test both false same none all =
    sym (true_from_ne_false (some_pe n test) (λ e. false≢true (all (λ p. same p ∙ outside e p))))
  where
    outside : some_pe n test ≡ false → (p : ℕ) → (test p && nat_lt p n) ≡ false
    outside e p = grind (arith, none_at n test p e, ltb-true)

pub and_right : (a b : Bool) → (a && b) ≡ true → b ≡ true
and_right = proved 2 (λ a b. If (Is (a && b) true) (Is b true)) refl

-- what is so of a tag and a root is so of those that a test tells to be the same
pub as-same : (P : Tag → ℕ → Type 0) (tag g : Tag) (root r : ℕ) → (same_tag tag g && nat_eq root r) ≡ true → P tag root → P g r
as-same P tag g root r e x =
    subst (λ (t : Tag). P t r) (tag_equal tag g (first_true (same_tag tag g) (nat_eq root r) e))
    (subst (P tag) (eqb-true root r (and_right (same_tag tag g) (nat_eq root r) e)) x)

-- a weaker test finds what a stronger one finds
pub any-weaker : {X : Type 0} (strong weak : X → Bool) → ((x : X) → strong x ≡ true → weak x ≡ true) →
    (xs : List X) → list_any strong xs ≡ true → list_any weak xs ≡ true
any-weaker strong weak h xs e = let f = any_found strong xs e in any_finds weak xs f.0 f.1 (h f.0 f.2)

-- a test that all of what each element gives passes
pub all_flat : {X Y : Type 0} (test : Y → Bool) (f : X → List Y) (xs : List X) →
    list_all test (flat_map f xs) ≡ list_all (λ x. list_all test (f x)) xs
all_flat test f [] = refl
all_flat test f (x ∷ xs) =
    list_all-append test (f x) (flat_map f xs) ∙ ap (λ (b : Bool). list_all test (f x) && b) (all_flat test f xs)

-- what a loop has found with the item at its index
pub any-next : {X : Type 0} (test : X → Bool) (xs : List X) (i : ℕ) (x : X) → i < length xs → x ≡ get_or xs i x →
    list_any test (take (i + 1) xs) ≡ (list_any test (take i xs) || test x)
any-next test xs i x lt is =
    list_any_more test xs i x lt ∙ ap (λ y. list_any test (take i xs) || test y) (sym is)

-- what a test finds in the front of a list it finds in the list
pub any-front : {X : Type 0} (test : X → Bool) (i : ℕ) (xs : List X) → list_any test (take i xs) ≡ true → list_any test xs ≡ true
any-front test zero xs e = absurd (false≢true e)
any-front test (suc i) [] e = e
any-front test (suc i) (x ∷ xs) e = grind (arith, any-front test i xs)

pub none-front : {X : Type 0} (test : X → Bool) (i : ℕ) (xs : List X) → list_any test xs ≡ false → list_any test (take i xs) ≡ false
none-front test i xs none = grind (arith, any-front test i xs)

pub or-split : (a b : Bool) → (P : Type 0) → (a ≡ true → P) → (b ≡ true → P) → (a || b) ≡ true → P
or-split true b P f g e = f refl
or-split false b P f g e = g e

pub least-same : {X : Type 0} (before : X → X → Type 0) (test other : X → Bool) → ((x : X) → other x ≡ test x) →
    (o : Option X) → IsLeast before test o → IsLeast before other o
least-same before test other same None h = λ x. same x ∙ h x
least-same before test other same (Some x) h = (same x ∙ h.0, λ y e. h.1 y (sym (same y) ∙ e))

-- sets of tags
pub tags-same : (test other : Tag → Bool) → ((g : Tag) → other g ≡ test g) → (set : TagSet) → HasTags test set → HasTags other set
tags-same test other same NoTag h = λ g. same g ∙ h g
tags-same test other same (One t) h = λ g. same g ∙ h g
tags-same test other same Many h = (h.0, h.1, h.2, same h.0 ∙ h.3, same h.1 ∙ h.4)

-- two tags stay two where more pass
pub tags-more : (test other : Tag → Bool) → ((g : Tag) → test g ≡ true → other g ≡ true) → HasTags test Many →
    HasTags other Many
tags-more test other more h = (h.0, h.1, h.2, more h.0 h.3, more h.1 h.4)

-- one tag is not two
two-of : (test : Tag → Bool) (t : Tag) → HasTags test (One t) → HasTags test Many → ⊥
two-of test t one two =
    let a = tag_equal t two.0 (sym (one two.0) ∙ two.3) in
    let b = tag_equal t two.1 (sym (one two.1) ∙ two.4) in
    false≢true (sym two.2 ∙ rw (← a, ← b) (tag_self t))

-- only one set says of each tag whether it passes
pub set-one : (test : Tag → Bool) (set other : TagSet) → HasTags test set → HasTags test other → set ≡ other
set-one test NoTag NoTag a b = refl
set-one test NoTag (One u) a b = absurd (false≢true (sym (a u) ∙ b u ∙ tag_self u))
set-one test NoTag Many a b = absurd (false≢true (sym (a b.0) ∙ b.3))
set-one test (One t) NoTag a b = absurd (false≢true (sym (b t) ∙ a t ∙ tag_self t))
set-one test (One t) (One u) a b = ap (λ (g : Tag). One g) (tag_equal t u (sym (a u) ∙ b u ∙ tag_self u))
set-one test (One t) Many a b = absurd (two-of test t a b)
set-one test Many NoTag a b = absurd (false≢true (sym (b a.0) ∙ a.3))
set-one test Many (One u) a b = absurd (two-of test u b a)
set-one test Many Many a b = refl
