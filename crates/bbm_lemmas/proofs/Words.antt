-- Options, lists of numbers, and tests of some PE.
use Rattle.std.proofs.Common.{◌≡◌, ℕ, zero, suc, ◌<◌, ◌⊎◌, Bool, true, false, cond, ◌==◌, List, [], ◌∷◌, Option, Some}
use Rattle.std.proofs.Common.{None, is_some, filter, refl, sym, ◌∙◌, ap, subst, inl, inr, true≢false, arith, nat_eq}
use Rattle.std.specs.List.{AllByRecursion, IsDistinct}
use Rattle.std.proofs.lemmas.Bool.{cases_eq, eq-eqb, eqb-true, ne_eqb}
use Rattle.bbm_lemmas.specs.Elements.{In}
use Rattle.bbm_lemmas.specs.ListWords.{◌>>=◌, among, below, if_so, repeated, some_pe, with_number}
use Rattle.bbm_lemmas.proofs.Elements.{any_finds, any_found, from_filter, is_none_of}

-- ---- options

pub bind_some : {A B : Type 0} (f : A → Option B) (o : Option A) (y : B) → (o >>= f) ≡ Some y
    → (x : A) × (o ≡ Some x) × (f x ≡ Some y)
bind_some f None y k = cc
bind_some f (Some x) y k = (x, refl, k)

pub if_so_some : {A : Type 0} (b : Bool) (x y : A) → if_so b x ≡ Some y → (b ≡ true) × (y ≡ x)
if_so_some true x y k = (refl, cc)
if_so_some false x y k = cc

pub some_if_so : {A : Type 0} (b : Bool) (x y : A) → b ≡ true → y ≡ x → if_so b x ≡ Some y
some_if_so true x y k e = ap Some (sym e)
some_if_so false x y k e = absurd (true≢false (sym k))

pub none_is : {A : Type 0} (o : Option A) → is_some o ≡ false → o ≡ None
none_is None e = refl
none_is (Some x) e = cc

pub some_is : {A : Type 0} (o : Option A) → is_some o ≡ true → (x : A) × (o ≡ Some x)
some_is None e = absurd (true≢false (sym e))
some_is (Some x) e = (x, refl)

-- ---- lists of numbers

pub same_number : (n : ℕ) → (n == n) ≡ true
same_number n = eq-eqb n n refl

pub in_among : (n : ℕ) (ms : List ℕ) → among n ms ≡ true → In ms n
in_among n ms k = let f = any_found (λ (m : ℕ). m == n) ms k in subst (In ms) (eqb-true f.0 n f.2) f.1

pub among_in : (n : ℕ) (ms : List ℕ) → In ms n → among n ms ≡ true
among_in n ms i = any_finds (λ (m : ℕ). m == n) ms n i (same_number n)

pub in_with : (n : ℕ) (ms : List ℕ) (m : ℕ) → In (with_number n ms) m → (n ≡ m) ⊎ In ms m
in_with n ms m i = by (among n ms) i
  where
    by : (b : Bool) → In (cond b ms (n ∷ ms)) m → (n ≡ m) ⊎ In ms m
    by true k = inr k
    by false k = k

pub with_keeps : (n : ℕ) (ms : List ℕ) (m : ℕ) → In ms m → In (with_number n ms) m
with_keeps n ms m i = by (among n ms)
  where
    by : (b : Bool) → In (cond b ms (n ∷ ms)) m
    by true = i
    by false = inr i

pub with_has : (n : ℕ) (ms : List ℕ) → In (with_number n ms) n
with_has n ms = by (among n ms) refl
  where
    by : (b : Bool) → among n ms ≡ b → In (cond b ms (n ∷ ms)) n
    by true k = in_among n ms k
    by false k = inl refl

-- no number stands twice in the list
abbrev pub Apart : List ℕ → Type 0
Apart [] = Unit {0}
Apart (n ∷ ns) = (In ns n → ⊥) × Apart ns

pub apart : (ms : List ℕ) → repeated ms ≡ [] → Apart ms
apart [] e = tt
apart (n ∷ ms) e = by (among n ms) refl e (apart ms)
  where
    by : (c : Bool) → among n ms ≡ c → cond c (n ∷ repeated ms) (repeated ms) ≡ [] → (repeated ms ≡ [] → Apart ms)
        → Apart (n ∷ ms)
    by true k l rest = cc
    by false k l rest = (λ i. true≢false (sym (among_in n ms i) ∙ k), rest l)

pub with_apart : (n : ℕ) (ms : List ℕ) → Apart ms → Apart (with_number n ms)
with_apart n ms a = by (among n ms) refl
  where
    by : (c : Bool) → among n ms ≡ c → Apart (cond c ms (n ∷ ms))
    by true k = a
    by false k = (λ i. true≢false (sym (among_in n ms i) ∙ k), a)

pub filter_apart : (test : ℕ → Bool) (ms : List ℕ) → Apart ms → Apart (filter test ms)
filter_apart test [] a = tt
filter_apart test (n ∷ ms) a = by (test n) (filter_apart test ms a.1)
  where
    by : (c : Bool) → Apart (filter test ms) → Apart (cond c (n ∷ filter test ms) (filter test ms))
    by true rest = (λ i. a.0 (from_filter test ms n i).0, rest)
    by false rest = rest

pub apart_distinct : (ms : List ℕ) → Apart ms → IsDistinct nat_eq ms
unfolding IsDistinct
apart_distinct [] a = tt
apart_distinct (n ∷ ms) a = (none ms a.0, apart_distinct ms a.1)
  where
    none : (ks : List ℕ) → (In ks n → ⊥) → AllByRecursion (λ k. nat_eq n k ≡ false) ks
    none [] out = tt
    none (k ∷ ks) out = (ne_eqb n k (λ e. out (inl (sym e))), none ks (λ i. out (inr i)))

-- ---- the numbers below one

pub in_below : (n p : ℕ) → p < n → In (below n) p
in_below zero p less = absurd (omega arith)
in_below (suc n) p less = elim (cases_eq n p) [ inl same ↦ inl same | inr apart ↦ inr (in_below n p (omega arith)) ]

pub below_less : (n i : ℕ) → In (below n) i → i < n
below_less zero i k = absurd k
below_less (suc n) i (inl e) = omega (arith, e)
below_less (suc n) i (inr k) = let less : i < n = below_less n i k in omega (arith, less)

pub pe_found : (n : ℕ) (test : ℕ → Bool) → some_pe n test ≡ true → (p : ℕ) × (p < n) × (test p ≡ true)
pe_found n test e = let f = any_found test (below n) e in (f.0, below_less n f.0 f.1, f.2)

pub pe_finds : (n : ℕ) (test : ℕ → Bool) (p : ℕ) → p < n → test p ≡ true → some_pe n test ≡ true
pe_finds n test p less e = any_finds test (below n) p (in_below n p less) e

pub pe_none : (n : ℕ) (test : ℕ → Bool) → ((p : ℕ) → p < n → test p ≡ false) → some_pe n test ≡ false
pe_none n test none = is_none_of test (below n) (λ p i. none p (below_less n p i))
