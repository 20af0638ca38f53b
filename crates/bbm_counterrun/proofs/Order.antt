-- The order of plans: what comes before one that comes before a third comes before the third, and two of one kind of which
-- neither comes before the other are the same.
use Rattle.bbm_counterrun.proofs.Common.{Plan, Read, by_combine, by_number, by_reads, comes_before, reads_of}
use Rattle.bbm_rules.proofs.Common.{◌≡◌, ℕ, arith, Bool, true, false, List, [], ◌∷◌, Option, refl, ◌∙◌, true≢false}
use Rattle.std.proofs.lemmas.Bool.Decides.{nat_tests}

-- ---- numbers

pub number_itself : (m : ℕ) (next : Bool) → by_number m m next ≡ next
number_itself m next = grind (arith, nat_tests)

number_then : (m n k : ℕ) (p q r : Bool) → by_number m n p ≡ true → by_number n k q ≡ true → (p ≡ true → q ≡ true → r ≡ true)
    → by_number m k r ≡ true
number_then m n k p q r a b next = grind (arith, nat_tests)

-- where neither of two is before the other they are equal, and what comes next decides
number_same : (m n : ℕ) (p q : Bool) → by_number m n p ≡ false → by_number n m q ≡ false
    → (m ≡ n) × (p ≡ false) × (q ≡ false)
number_same m n p q a b = grind (arith, nat_tests)

-- ---- lists of reads

pub reads_itself : (rs : List Read) (next : Bool) → by_reads rs rs next ≡ next
reads_itself [] next = refl
reads_itself (r ∷ rs) next = number_itself r.place _ ∙ number_itself r.value _ ∙ reads_itself rs next

reads_then : (rs ss ts : List Read) (p q r : Bool) → by_reads rs ss p ≡ true → by_reads ss ts q ≡ true
    → (p ≡ true → q ≡ true → r ≡ true) → by_reads rs ts r ≡ true
reads_then [] ss ts p q r a b next = grind (arith, nat_tests)
reads_then (x ∷ rs) [] ts p q r a b next = cc
reads_then (x ∷ rs) (s ∷ ss) [] p q r a b next = cc
reads_then (x ∷ rs) (s ∷ ss) (t ∷ ts) p q r a b next =
    number_then x.place s.place t.place _ _ _ a b
    (λ c d. number_then x.value s.value t.value _ _ _ c d (λ f g. reads_then rs ss ts p q r f g next))

reads_same : (rs ss : List Read) (p q : Bool) → by_reads rs ss p ≡ false → by_reads ss rs q ≡ false
    → (rs ≡ ss) × (p ≡ false) × (q ≡ false)
reads_same [] [] p q a b = (refl, a, b)
reads_same [] (s ∷ ss) p q a b = absurd (true≢false a)
reads_same (r ∷ rs) [] p q a b = absurd (true≢false b)
reads_same (r ∷ rs) (s ∷ ss) p q a b =
    let c = number_same r.place s.place _ _ a b in
    let d = number_same r.value s.value _ _ c.1 c.2 in
    let rest = reads_same rs ss p q d.1 d.2 in
    (λ i. record { place = c.0 i; value = d.0 i } ∷ rest.0 i, rest.1, rest.2)

-- ---- combines

pub combine_itself : (o : Option ℕ) → by_combine o o ≡ false
combine_itself o = grind (arith, nat_tests)

combine_then : (o p q : Option ℕ) → by_combine o p ≡ true → by_combine p q ≡ true → by_combine o q ≡ true
combine_then o p q a b = grind (arith, nat_tests)

combine_same : (o p : Option ℕ) → by_combine o p ≡ false → by_combine p o ≡ false → o ≡ p
combine_same o p a b = grind (arith, nat_tests)

-- ---- plans

pub before_then : (a b c : Plan) → comes_before a b ≡ true → comes_before b c ≡ true → comes_before a c ≡ true
before_then a b c e f =
    number_then a.starts b.starts c.starts _ _ _ e f (λ e f. number_then a.pe b.pe c.pe _ _ _ e f
    (λ e f. number_then a.number b.number c.number _ _ _ e f (λ e f. reads_then (reads_of a) (reads_of b) (reads_of c) _ _ _
    e f (combine_then a.combines b.combines c.combines))))

pub same_if_neither : (a b : Plan) → a.kind ≡ b.kind → comes_before a b ≡ false → comes_before b a ≡ false → a ≡ b
same_if_neither a b kind e f =
    let s = number_same a.starts b.starts _ _ e f in
    let p = number_same a.pe b.pe _ _ s.1 s.2 in
    let n = number_same a.number b.number _ _ p.1 p.2 in
    let r = reads_same (reads_of a) (reads_of b) _ _ n.1 n.2 in
    let combines = combine_same a.combines b.combines r.1 r.2 in
    let reads : a.first ∷ a.rest ≡ b.first ∷ b.rest = r.0 in
    let first : a.first ≡ b.first = cc in
    let rest : a.rest ≡ b.rest = cc in λ i. record {
      starts = s.0 i;
      pe = p.0 i;
      kind = kind i;
      number = n.0 i;
      first = first i;
      rest = rest i;
      combines = combines i;
    }
