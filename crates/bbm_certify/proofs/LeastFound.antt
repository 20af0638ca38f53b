-- The least list of numbers that passes a test, among those that are made of the numbers of a list.
use Rattle.bbm_certify.proofs.Common.{less, IsLeast}
use Rattle.bbm_rules.proofs.Common.{◌≡◌, ◌⊎◌, ℕ, zero, suc, ◌≤◌, Bool, true, false, List, [], nat_tests, ◌∷◌, refl, sym}
use Rattle.bbm_rules.proofs.Common.{◌∙◌, ap, inl, inr, true≢false, arith, cases_lt, list_any, any_finds, none_of, In}

-- ---- one number

record Smallest (xs : List ℕ) (f : ℕ → Bool) : Type 0 where
  pub n : ℕ
  pub passes : f n ≡ true
  pub least : (m : ℕ) → In xs m → f m ≡ true → n ≤ m

module _ (x : ℕ) (xs : List ℕ) (f : ℕ → Bool) where
  first : f x ≡ true → ((m : ℕ) → In xs m → f m ≡ true → x ≤ m) → Smallest (x ∷ xs) f
  first here others = record {
    n = x;
    passes = here;
    least = λ m i k. elim i [ inl e ↦ omega (arith, e) | inr j ↦ others m j k ];
  }

  later : (s : Smallest xs f) → (f x ≡ true → s.n ≤ x) → Smallest (x ∷ xs) f
  later s here = record {
    n = s.n;
    passes = s.passes;
    least = λ m i k. elim i [ inl e ↦ let le : s.n ≤ x = here (ap f e ∙ k) in omega (arith, e, le) | inr j ↦ s.least m j k ];
  }

smallest : (xs : List ℕ) (f : ℕ → Bool) → list_any f xs ≡ true → Smallest xs f
smallest [] f some = absurd (cc)
smallest (x ∷ xs) f some = by (f x) (list_any f xs) refl refl (smallest xs f)
  where
    by : (here there : Bool) → f x ≡ here → list_any f xs ≡ there → (list_any f xs ≡ true → Smallest xs f)
        → Smallest (x ∷ xs) f
    by true true here there next = let s = next there in elim (cases_lt x s.n) [
      | inl lt ↦ first x xs f here (λ m i k. let le : s.n ≤ m = s.least m i k in omega (arith, lt, le))
      | inr le ↦ later x xs f s (λ k. le)
    ]
    by true false here there next = first x xs f here (λ m i k. absurd (true≢false (sym k ∙ none_of f xs there m i)))
    by false true here there next = later x xs f (next there) (λ k. absurd (true≢false (sym k ∙ here)))
    by false false here there next = absurd (cc)

-- ---- a list of numbers

-- the list has k numbers, each one of xs
abbrev pub Over : List ℕ → ℕ → List ℕ → Type 0
Over xs zero [] = Unit {0}
Over xs (suc k) (m ∷ ms) = In xs m × Over xs k ms
Over xs k ms = ⊥

-- the list has k numbers
abbrev pub Sized : ℕ → List ℕ → Type 0
Sized zero [] = Unit {0}
Sized (suc k) (m ∷ ms) = Sized k ms
Sized k ms = ⊥

-- whether such a list passes the test
abbrev some_list : List ℕ → ℕ → (List ℕ → Bool) → Bool
some_list xs zero test = test []
some_list xs (suc k) test = list_any (λ m. some_list xs k (λ ms. test (m ∷ ms))) xs

finds_list : (xs : List ℕ) (k : ℕ) (test : List ℕ → Bool) (ms : List ℕ) → Over xs k ms → test ms ≡ true
    → some_list xs k test ≡ true
finds_list xs zero test [] o passes = passes
finds_list xs zero test (m ∷ ms) o passes = absurd o
finds_list xs (suc k) test [] o passes = absurd o
finds_list xs (suc k) test (m ∷ ms) o passes =
    any_finds (λ (m : ℕ). some_list xs k (λ ms. test (m ∷ ms))) xs m o.0
    (finds_list xs k (λ ms. test (m ∷ ms)) ms o.1 passes)

-- the least that passes
record LeastList (xs : List ℕ) (k : ℕ) (test : List ℕ → Bool) : Type 0 where
  pub ns : List ℕ
  pub sized : Sized k ns
  pub passes : test ns ≡ true
  pub least : (ms : List ℕ) → Over xs k ms → test ms ≡ true → less ms ns ≡ false

-- a first number that isn't less, and the rest that isn't where they are equal
not_less : (m n : ℕ) (ms ns : List ℕ) → n ≤ m → (m ≡ n → less ms ns ≡ false) → less (m ∷ ms) (n ∷ ns) ≡ false
not_less m n ms ns first rest = grind (arith, nat_tests)

least_list : (xs : List ℕ) (k : ℕ) (test : List ℕ → Bool) → some_list xs k test ≡ true → LeastList xs k test
least_list xs zero test some = record { ns = []; sized = tt; passes = some; least = only }
  where
    only : (ms : List ℕ) → Over xs zero ms → test ms ≡ true → less ms [] ≡ false
    only [] o passes = refl
    only (m ∷ ms) o passes = refl
least_list xs (suc k) test some =
    let s = smallest xs (λ m. some_list xs k (λ ms. test (m ∷ ms))) some in
    with_rest s (least_list xs k (λ ms. test (s.n ∷ ms)) s.passes)
  where
    with_rest : (s : Smallest xs (λ m. some_list xs k (λ ms. test (m ∷ ms)))) → LeastList xs k (λ ms. test (s.n ∷ ms))
        → LeastList xs (suc k) test
    with_rest s l = record { ns = s.n ∷ l.ns; sized = l.sized; passes = l.passes; least = only }
      where
        only : (ms : List ℕ) → Over xs (suc k) ms → test ms ≡ true → less ms (s.n ∷ l.ns) ≡ false
        only [] o passes = absurd o
        only (m ∷ ms) o passes =
            not_less m s.n ms l.ns (s.least m o.0 (finds_list xs k (λ ms. test (m ∷ ms)) ms o.1 passes))
            (λ same. l.least ms o.1 (ap (λ z. test (z ∷ ms)) (sym same) ∙ passes))

-- ---- the least list of which something holds that the test tells

module _ (Holds : List ℕ → Type 0) (xs : List ℕ) (k : ℕ) (test : List ℕ → Bool)
    (sound : (ns : List ℕ) → Sized k ns → test ns ≡ true → Holds ns)
    (complete : (ns : List ℕ) → Holds ns → Over xs k ns × (test ns ≡ true)) where
  -- there is one, or it holds of none
  pub least_or_none : ((ns : List ℕ) × Sized k ns × IsLeast Holds ns) ⊎ ((ns : List ℕ) → Holds ns → ⊥)
  least_or_none = by (some_list xs k test) refl
    where
      by : (b : Bool) → some_list xs k test ≡ b
          → ((ns : List ℕ) × Sized k ns × IsLeast Holds ns) ⊎ ((ns : List ℕ) → Holds ns → ⊥)
      by true some = let l = least_list xs k test some in
          inl (
            l.ns,
            l.sized,
            record {
              holds = sound l.ns l.sized l.passes;
              least = λ ns at. let c = complete ns at in l.least ns c.0 c.1;
            },
          )
      by false none = inr (λ ns at. let c = complete ns at in
          true≢false (sym (finds_list xs k test ns c.0 c.1) ∙ none))
