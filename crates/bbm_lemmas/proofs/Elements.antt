-- Elements of lists that are made from others, and of lists that are searched or split.
use Rattle.std.proofs.Common.{◌≡◌, ℕ, zero, suc, ◌<◌, Bool, true, false, cond, ◌⊎◌, List, [], ◌∷◌, ◌++◌, length, Option}
use Rattle.std.proofs.Common.{Some, None, Contains, slice_index_or, filter, flat_map, filter_map, map, refl, sym, ◌∙◌}
use Rattle.std.proofs.Common.{ap, subst, inl, inr, true≢false, not-suc-le-zero, le_of_suc-le-suc, suc-le-suc, zero-le}
use Rattle.std.proofs.Common.{◌+◌, get_or, option_to_list, take}
use Rattle.std.proofs.lemmas.Bool.{and_parts, or_cases, or_from, or_left, or_parts, or_right}
use Rattle.std.proofs.lemmas.List.{take_more}
use Rattle.std.proofs.lemmas.List.Elements.{filter_map-append}
use Rattle.std.specs.List.{cons_option, list_all, list_any}
use Rattle.bbm_lemmas.specs.Elements.{In}

in_at : {X : Type 0} (xs : List X) (x : X) (k : ℕ) → k < length xs → slice_index_or xs k x ≡ x → In xs x
in_at [] x k below e = absurd (not-suc-le-zero below)
in_at (y ∷ ys) x zero below e = inl e
in_at (y ∷ ys) x (suc k) below e = inr (in_at ys x k (le_of_suc-le-suc below) e)

pub from_contains : {X : Type 0} (xs : List X) (x : X) → Contains xs x → In xs x
from_contains xs x c = in_at xs x c.0 c.1 c.2

pub to_contains : {X : Type 0} (xs : List X) (x : X) → In xs x → Contains xs x
to_contains [] x i = absurd i
to_contains (y ∷ ys) x (inl e) = (0, suc-le-suc zero-le, e)
to_contains (y ∷ ys) x (inr i) = let c : Contains ys x = to_contains ys x i in (suc c.0, suc-le-suc c.1, c.2)

-- an empty list has no element
pub none_in : {X : Type 0} (xs : List X) (x : X) → xs ≡ [] → In xs x → ⊥
none_in {X} xs x e i = let k : In {X = X} [] x = subst (λ (ys : List X). In ys x) e i in k

pub in_left : {X : Type 0} (xs ys : List X) (x : X) → In xs x → In (xs ++ ys) x
in_left [] ys x i = absurd i
in_left (y ∷ xs) ys x (inl e) = inl e
in_left (y ∷ xs) ys x (inr i) = inr (in_left xs ys x i)

pub in_right : {X : Type 0} (xs ys : List X) (x : X) → In ys x → In (xs ++ ys) x
in_right [] ys x i = i
in_right (y ∷ xs) ys x i = inr (in_right xs ys x i)

pub in_append : {X : Type 0} (xs ys : List X) (x : X) → In (xs ++ ys) x → In xs x ⊎ In ys x
in_append [] ys x i = inr i
in_append (y ∷ xs) ys x (inl e) = inl (inl e)
in_append (y ∷ xs) ys x (inr i) = elim (in_append xs ys x i) [ inl l ↦ inl (inr l) | inr r ↦ inr r ]

pub from_flat : {X A : Type 0} (f : X → List A) (xs : List X) (a : A) → In (flat_map f xs) a
    → (x : X) × In xs x × In (f x) a
from_flat f [] a i = absurd i
from_flat f (x ∷ xs) a i =
    elim (in_append (f x) (flat_map f xs) a i) [
      | inl here ↦ (x, inl refl, here)
      | inr there ↦ let r = from_flat f xs a there in (r.0, inr r.1, r.2)
    ]

pub to_flat : {X A : Type 0} (f : X → List A) (xs : List X) (x : X) (a : A) → In xs x → In (f x) a
    → In (flat_map f xs) a
to_flat f [] x a i k = absurd i
to_flat {X} {A} f (y ∷ xs) x a (inl e) k =
    in_left (f y) (flat_map f xs) a (subst (λ (z : X). In (f z) a) (sym e) k)
to_flat f (y ∷ xs) x a (inr i) k = in_right (f y) (flat_map f xs) a (to_flat f xs x a i k)

in_option : {Y : Type 0} (o : Option Y) (ys : List Y) (y : Y) → In (cons_option o ys) y → (o ≡ Some y) ⊎ In ys y
in_option None ys y i = inr i
in_option (Some z) ys y (inl e) = inl (ap Some e)
in_option (Some z) ys y (inr i) = inr i

option_has : {Y : Type 0} (o : Option Y) (ys : List Y) (y : Y) → o ≡ Some y → In (cons_option o ys) y
option_has {Y} o ys y e = subst (λ (p : Option Y). In (cons_option p ys) y) (sym e) (inl refl)

option_keeps : {Y : Type 0} (o : Option Y) (ys : List Y) (y : Y) → In ys y → In (cons_option o ys) y
option_keeps None ys y i = i
option_keeps (Some z) ys y i = inr i

pub from_filter_map : {X Y : Type 0} (f : X → Option Y) (xs : List X) (y : Y) → In (filter_map f xs) y
    → (x : X) × In xs x × (f x ≡ Some y)
from_filter_map f [] y i = absurd i
from_filter_map f (x ∷ xs) y i =
    elim (in_option (f x) (filter_map f xs) y i) [
      | inl here ↦ (x, inl refl, here)
      | inr there ↦ let r = from_filter_map f xs y there in (r.0, inr r.1, r.2)
    ]

pub to_filter_map : {X Y : Type 0} (f : X → Option Y) (xs : List X) (x : X) (y : Y) → In xs x → f x ≡ Some y
    → In (filter_map f xs) y
to_filter_map f [] x y i k = absurd i
to_filter_map f (z ∷ xs) x y (inl e) k = option_has (f z) (filter_map f xs) y (ap f e ∙ k)
to_filter_map f (z ∷ xs) x y (inr i) k = option_keeps (f z) (filter_map f xs) y (to_filter_map f xs x y i k)

in_cond : {X : Type 0} (b : Bool) (x : X) (xs : List X) (y : X) → In (cond b (x ∷ xs) xs) y
    → ((b ≡ true) × (x ≡ y)) ⊎ In xs y
in_cond true x xs y (inl e) = inl (refl, e)
in_cond true x xs y (inr i) = inr i
in_cond false x xs y i = inr i

cond_has : {X : Type 0} (b : Bool) (x : X) (xs : List X) → b ≡ true → In (cond b (x ∷ xs) xs) x
cond_has true x xs e = inl refl
cond_has false x xs e = absurd (true≢false (sym e))

cond_keeps : {X : Type 0} (b : Bool) (x : X) (xs : List X) (y : X) → In xs y → In (cond b (x ∷ xs) xs) y
cond_keeps true x xs y i = inr i
cond_keeps false x xs y i = i

pub from_filter : {X : Type 0} (test : X → Bool) (xs : List X) (x : X) → In (filter test xs) x
    → In xs x × (test x ≡ true)
from_filter test [] x i = absurd i
from_filter test (y ∷ xs) x i =
    elim (in_cond (test y) y (filter test xs) x i) [
      | inl here ↦ (inl here.1, sym (ap test here.1) ∙ here.0)
      | inr there ↦ let r = from_filter test xs x there in (inr r.0, r.1)
    ]

pub to_filter : {X : Type 0} (test : X → Bool) (xs : List X) (x : X) → In xs x → test x ≡ true → In (filter test xs) x
to_filter test [] x i k = absurd i
to_filter {X} test (y ∷ xs) x (inl e) k =
    subst (λ (z : X). In (cond (test y) (y ∷ filter test xs) (filter test xs)) z) e
    (cond_has (test y) y (filter test xs) (ap test e ∙ k))
to_filter test (y ∷ xs) x (inr i) k = cond_keeps (test y) y (filter test xs) x (to_filter test xs x i k)

pub in_map : {X Y : Type 0} (f : X → Y) (xs : List X) (x : X) → In xs x → In (map f xs) (f x)
in_map f [] x i = absurd i
in_map f (y ∷ xs) x (inl e) = inl (ap f e)
in_map f (y ∷ xs) x (inr i) = inr (in_map f xs x i)

pub from_map : {X Y : Type 0} (f : X → Y) (xs : List X) (y : Y) → In (map f xs) y → (x : X) × In xs x × (f x ≡ y)
from_map f [] y i = absurd i
from_map f (x ∷ xs) y (inl e) = (x, inl refl, e)
from_map f (x ∷ xs) y (inr i) = let r = from_map f xs y i in (r.0, inr r.1, r.2)

-- some element passes a test, or none does
pub any_found : {X : Type 0} (test : X → Bool) (xs : List X) → list_any test xs ≡ true
    → (x : X) × In xs x × (test x ≡ true)
any_found test [] e = absurd (true≢false (sym e))
any_found test (y ∷ xs) e =
    elim (or_cases (test y) (list_any test xs) e) [
      | inl here ↦ (y, inl refl, here)
      | inr there ↦ let r = any_found test xs there in (r.0, inr r.1, r.2)
    ]

pub any_finds : {X : Type 0} (test : X → Bool) (xs : List X) (x : X) → In xs x → test x ≡ true → list_any test xs ≡ true
any_finds test [] x i k = absurd i
any_finds test (y ∷ xs) x (inl e) k = or_left (test y) (list_any test xs) (ap test e ∙ k)
any_finds test (y ∷ xs) x (inr i) k = or_right (test y) (list_any test xs) (any_finds test xs x i k)

pub none_of : {X : Type 0} (test : X → Bool) (xs : List X) → list_any test xs ≡ false → (x : X) → In xs x
    → test x ≡ false
none_of test [] k x i = absurd i
none_of test (y ∷ xs) k x (inl e) = ap test (sym e) ∙ (or_parts (test y) (list_any test xs) k).0
none_of test (y ∷ xs) k x (inr i) = none_of test xs (or_parts (test y) (list_any test xs) k).1 x i

pub is_none_of : {X : Type 0} (test : X → Bool) (xs : List X) → ((x : X) → In xs x → test x ≡ false)
    → list_any test xs ≡ false
is_none_of test [] all = refl
is_none_of test (y ∷ xs) all =
    or_from (test y) (list_any test xs) (all y (inl refl)) (is_none_of test xs (λ x i. all x (inr i)))

-- an element of a list stands in a split of it
pub in_split : {A : Type 0} (newer older : List A) (x : A) → In (newer ++ x ∷ older) x
in_split [] older x = inl refl
in_split (y ∷ newer) older x = inr (in_split newer older x)

pub split_in : {A : Type 0} (xs : List A) (x : A) → In xs x → (newer older : List A) × (xs ≡ newer ++ x ∷ older)
split_in [] x i = absurd i
split_in {A} (y ∷ xs) x (inl same) = ([], xs, ap (λ (z : A). z ∷ xs) same)
split_in {A} (y ∷ xs) x (inr i) =
    let r = split_in xs x i in (y ∷ r.0, r.1, ap (λ (zs : List A). y ∷ zs) r.2)

-- ---- elements by their numbers

pub contains_none : {X : Type 0} (x : X) → Contains [] x → ⊥
contains_none x c = not-suc-le-zero c.1

pub contains_head : {X : Type 0} (xs : List X) (x : X) → Contains (x ∷ xs) x
contains_head xs x = (0, suc-le-suc zero-le, refl)

pub contains_more : {X : Type 0} (xs : List X) (y x : X) → Contains xs x → Contains (y ∷ xs) x
contains_more xs y x c = (suc c.0, suc-le-suc c.1, c.2)

pub contains_cases : {X : Type 0} (xs : List X) (y x : X) → Contains (y ∷ xs) x → (y ≡ x) ⊎ Contains xs x
contains_cases {X} xs y x c = by c.0 c.1 c.2
  where
    by : (k : ℕ) → k < length (y ∷ xs) → slice_index_or (y ∷ xs) k x ≡ x → (y ≡ x) ⊎ Contains xs x
    by zero below e = inl e
    by (suc k) below e = inr (k, le_of_suc-le-suc below, e)

pub contains_after : {X : Type 0} (xs ys : List X) (x : X) → Contains ys x → Contains (xs ++ ys) x
contains_after [] ys x c = c
contains_after (y ∷ xs) ys x c = contains_more (xs ++ ys) y x (contains_after xs ys x c)

-- where every element passes, one that is there does
pub every_in : {X : Type 0} (test : X → Bool) (xs : List X) (x : X) → list_all test xs ≡ true → In xs x → test x ≡ true
every_in test [] x e i = absurd i
every_in test (y ∷ xs) x e (inl same) = ap test (sym same) ∙ (and_parts (test y) (list_all test xs) e).0
every_in test (y ∷ xs) x e (inr there) = every_in test xs x (and_parts (test y) (list_all test xs) e).1 there

-- ---- one item more of a list

pub one_option : {Y : Type 0} (o : Option Y) → cons_option o [] ≡ option_to_list o
one_option None = refl
one_option (Some y) = refl

pub taken_more : {X : Type 0} (xs : List X) (i : ℕ) (x : X) → i < length xs → x ≡ get_or xs i x
    → take (i + 1) xs ≡ take i xs ++ x ∷ []
taken_more xs i x lt is = take_more xs i x lt ∙ ap (λ y. take i xs ++ y ∷ []) (sym is)

pub filter_map_more : {X Y : Type 0} (f : X → Option Y) (xs : List X) (i : ℕ) (x : X) (ys zs : List Y) → i < length xs
    → x ≡ get_or xs i x → ys ≡ filter_map f (take i xs) → zs ≡ ys ++ option_to_list (f x)
    → zs ≡ filter_map f (take (i + 1) xs)
filter_map_more f xs i x ys zs lt is before now =
    rw (now, before, taken_more xs i x lt is, filter_map-append f (take i xs) (x ∷ []), one_option (f x)) refl
