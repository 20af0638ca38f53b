-- The least of a list, from its parts.
use Rattle.bbm_rules.proofs.Common.{◌≡◌, ℕ, ◌+◌, ◌<◌, ◌++◌, ◌∷◌, [], Bool, true, false, cond, List, Option, Some, None}
use Rattle.bbm_rules.proofs.Common.{min, unwrap_or, length, take, get_or, filter, flat_map, refl, sym, ◌∙◌, ap, arith}
use Rattle.bbm_rules.proofs.Common.{nat_tests, among, if_so, least, repeated}
use Rattle.std.proofs.lemmas.Grind.{flat_map-append}
use Rattle.std.proofs.lemmas.List.{append-nil}
use Rattle.std.proofs.lemmas.List.Elements.{filter-append}
use Rattle.bbm_judge.specs.Lesser.{is_at_most, lesser}
use Rattle.bbm_lemmas.proofs.Elements.{taken_more}

lesser_assoc : (a b c : Option ℕ) → lesser (lesser a b) c ≡ lesser a (lesser b c)
lesser_assoc None b c = refl
lesser_assoc (Some n) None None = let e : min (min n n) (min n n) ≡ min n n = omega arith in ap (λ (m : ℕ). Some m) e
lesser_assoc (Some n) None (Some k) = let e : min (min n n) k ≡ min n k = omega arith in ap (λ (m : ℕ). Some m) e
lesser_assoc (Some n) (Some m) None =
    let e : min (min n m) (min n m) ≡ min n (min m m) = omega arith in ap (λ (m : ℕ). Some m) e
lesser_assoc (Some n) (Some m) (Some k) =
    let e : min (min n m) k ≡ min n (min m k) = omega arith in ap (λ (m : ℕ). Some m) e

pub least_append : (a b : List ℕ) → least (a ++ b) ≡ lesser (least a) (least b)
least_append [] b = refl
least_append (n ∷ a) b =
    ap (λ (o : Option ℕ). lesser (Some n) o) (least_append a b) ∙ sym (lesser_assoc (Some n) (least a) (least b))

-- a number where the test holds is the least of a list of it alone
least_one : (b : Bool) (x : ℕ) → if_so b x ≡ least (cond b (x ∷ []) [])
least_one true x = let e : x ≡ min x x = omega arith in ap (λ (m : ℕ). Some m) e
least_one false x = refl

-- one more number of a list that passes a test
pub least_filter_more : (p : ℕ → Bool) (xs : List ℕ) (i x : ℕ) (found here : Option ℕ) → i < length xs → x ≡ get_or xs i x
    → found ≡ least (filter p (take i xs)) → here ≡ if_so (p x) x
    → lesser found here ≡ least (filter p (take (i + 1) xs))
least_filter_more p xs i x found here lt is before now =
    rw (before, now, least_one (p x) x, taken_more xs i x lt is, filter-append p (take i xs) (x ∷ []))
    (sym (least_append (filter p (take i xs)) (filter p (x ∷ []))))

-- the numbers of one more item of a list
pub least_flat_more : {A : Type 0} (f : A → List ℕ) (xs : List A) (i : ℕ) (x : A) (found here : Option ℕ) → i < length xs
    → x ≡ get_or xs i x → found ≡ least (flat_map f (take i xs)) → here ≡ least (f x)
    → lesser found here ≡ least (flat_map f (take (i + 1) xs))
least_flat_more f xs i x found here lt is before now =
    rw (before, now, taken_more xs i x lt is, flat_map-append f (take i xs) (x ∷ []), append-nil (f x))
    (sym (least_append (flat_map f (take i xs)) (f x)))

-- one more number in front, where a lesser one was found twice already
pub repeated_found : (found : Option ℕ) (n : ℕ) (ms : List ℕ) → found ≡ least (repeated ms) → is_at_most found n ≡ true
    → found ≡ least (repeated (n ∷ ms))
repeated_found found n ms e low = e ∙ by_test (among n ms) (repeated ms) (rw e at low)
  where
    less : (o : Option ℕ) → is_at_most o n ≡ true → o ≡ Some (min n (unwrap_or o n))
    less None low = absurd (true_is_false low)
      where
        true_is_false : false ≡ true → ⊥
        true_is_false e = cc
    less (Some m) low = let e : m ≡ min n m = grind (arith, nat_tests) in ap (λ (k : ℕ). Some k) e

    by_test : (b : Bool) (rs : List ℕ) → is_at_most (least rs) n ≡ true → least rs ≡ least (cond b (n ∷ rs) rs)
    by_test true rs low = less (least rs) low
    by_test false rs low = refl

-- one more number in front, where it stands behind too, and no lesser one was found
pub repeated_now : (found : Option ℕ) (n : ℕ) (ms : List ℕ) → found ≡ least (repeated ms) → is_at_most found n ≡ false
    → among n ms ≡ true → Some n ≡ least (repeated (n ∷ ms))
repeated_now found n ms e high in_ms = rw (in_ms) (less (least (repeated ms)) (rw e at high))
  where
    less : (o : Option ℕ) → is_at_most o n ≡ false → Some n ≡ Some (min n (unwrap_or o n))
    less None high = let e : n ≡ min n n = omega arith in ap (λ (k : ℕ). Some k) e
    less (Some m) high = let e : n ≡ min n m = grind (arith, nat_tests) in ap (λ (k : ℕ). Some k) e

-- the least of two lists together
pub least_both : (xs ys : List ℕ) (one other : Option ℕ) → one ≡ least xs → other ≡ least ys → lesser one other ≡ least (xs ++ ys)
least_both xs ys one other e e' = rw (e, e') (sym (least_append xs ys))

pub least_of_both : {A : Type 0} (f : A → List ℕ) (xs ys : List A) (one other : Option ℕ) → one ≡ least (flat_map f xs)
    → other ≡ least (flat_map f ys) → lesser one other ≡ least (flat_map f (xs ++ ys))
least_of_both f xs ys one other e e' =
    rw (flat_map-append f xs ys) (least_both (flat_map f xs) (flat_map f ys) one other e e')
