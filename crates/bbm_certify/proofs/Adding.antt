-- Claims that are put in their order, one after the other.
use Rattle.bbm_certify.proofs.Common.{insert, Ascending, IsDue, claim_key, less, AreDue, Adds}
use Rattle.bbm_rules.proofs.Common.{◌≡◌, ◌⊎◌, ℕ, ◌+◌, ◌<◌, ◌≤◌, true, false, List, [], ◌∷◌, ◌++◌, length, take, drop}
use Rattle.bbm_rules.proofs.Common.{get_or, refl, sym, ◌∙◌, ap, subst, inl, inr, arith, length-append, get_or_at}
use Rattle.bbm_rules.proofs.Common.{append_assoc, get_or_default, length-take-le, take-append-drop, Claim, Heading}
use Rattle.bbm_rules.proofs.Common.{Event, from_contains, in_append, in_left, in_right, in_split, to_contains, In}
use Rattle.bbm_certify.specs.Orders.{HasKey}
use Rattle.bbm_certify.proofs.OneDue.{key_size, less_neither}

abbrev pub before_it : Claim → Claim → Type 0
before_it c d = less (claim_key c) (claim_key d) ≡ true

-- ---- what was added

pub adds_none : (These : Claim → Type 0) (xs : List Claim) → ((c : Claim) → These c → ⊥) → Adds These xs xs
adds_none These xs none =
    record { sorted = λ a. a; from = λ c i. inl i; kept = λ c i. i; has = λ c t. absurd (none c t) }

has_on : (xs ys : List Claim) (c : Claim) → ((d : Claim) → In xs d → In ys d) → HasKey xs c → HasKey ys c
has_on xs ys c kept k = (k.0, kept k.0 k.1, k.2)

pub adds_more : (S T U : Claim → Type 0) (xs ys zs : List Claim) → Adds S xs ys → Adds T ys zs → ((c : Claim) → S c → U c)
    → ((c : Claim) → T c → U c) → ((c : Claim) → U c → S c ⊎ T c) → Adds U xs zs
adds_more S T U xs ys zs a b left right parts = record {
  sorted = λ o. b.sorted (a.sorted o);
  from = λ c i. elim (b.from c i) [
    | inl old ↦ elim (a.from c old) [ inl older ↦ inl older | inr s ↦ inr (left c s) ]
    | inr t ↦ inr (right c t)
  ];
  kept = λ c i. b.kept c (a.kept c i);
  has = λ c u. elim (parts c u) [ inl s ↦ has_on ys zs c b.kept (a.has c s) | inr t ↦ b.has c t ];
}

pub adds_same : (S T : Claim → Type 0) (xs ys : List Claim) → Adds S xs ys → ((c : Claim) → S c → T c)
    → ((c : Claim) → T c → S c) → Adds T xs ys
adds_same S T xs ys a to from =
    adds_more S (λ c. ⊥) T xs ys ys a (adds_none (λ c. ⊥) ys (λ c k. k)) to (λ c k. absurd k) (λ c t. inl (from c t))

-- ---- one claim

-- a claim that stands in its place
insert_sorted : (xs ys : List Claim) (c : Claim) → Ascending (xs ++ ys)
    → ((before : List Claim) (x : Claim) → xs ≡ before ++ x ∷ [] → before_it x c)
    → ((after : List Claim) (y : Claim) → ys ≡ y ∷ after → before_it c y) → Ascending (xs ++ c ∷ ys)
insert_sorted [] [] c a last first = tt
insert_sorted [] (y ∷ ys) c a last first = (first ys y refl, a)
insert_sorted (x ∷ []) [] c a last first = (last [] x refl, tt)
insert_sorted (x ∷ []) (y ∷ ys) c a last first = (last [] x refl, (first ys y refl, a.1))
insert_sorted (x ∷ x' ∷ xs) ys c a last first =
    (a.0, insert_sorted (x' ∷ xs) ys c a.1 (λ before z e. last (x ∷ before) z (ap (λ (zs : List Claim). x ∷ zs) e)) first)

pub inserted : (xs : List Claim) (n : ℕ) (c : Claim) → n ≤ length xs
    → ((before after : List Claim) (x : Claim) → xs ≡ before ++ x ∷ after → length before + 1 ≡ n → before_it x c)
    → (n < length xs → before_it c (get_or xs n c)) → Adds (λ x. x ≡ c) xs (insert xs n c)
inserted xs n c within last first = record {
  sorted = λ a. insert_sorted (take n xs) (drop n xs) c (subst (λ (ys : List Claim). Ascending ys) (sym whole) a) at_end at_start;
  from = λ x i. elim (in_append (take n xs) (c ∷ drop n xs) x i) [
    | inl left ↦ inl (subst (λ (ys : List Claim). In ys x) whole (in_left (take n xs) (drop n xs) x left))
    | inr (inl same) ↦ inr (sym same)
    | inr (inr right) ↦ inl (subst (λ (ys : List Claim). In ys x) whole (in_right (take n xs) (drop n xs) x right))
  ];
  kept = λ x i. elim (in_append (take n xs) (drop n xs) x (subst (λ (ys : List Claim). In ys x) (sym whole) i)) [
    | inl left ↦ in_left (take n xs) (c ∷ drop n xs) x left
    | inr right ↦ in_right (take n xs) (c ∷ drop n xs) x (inr right)
  ];
  has = λ x same. (c, in_split (take n xs) (drop n xs) c, ap claim_key (sym same));
}
  where
    whole : take n xs ++ drop n xs ≡ xs
    whole = take-append-drop n xs

    count : length (take n xs) ≡ n
    count = length-take-le n xs within

    at_end : (before : List Claim) (x : Claim) → take n xs ≡ before ++ x ∷ [] → before_it x c
    at_end before x e =
        last before (drop n xs) x
        (sym whole ∙ (ap (λ (ys : List Claim). ys ++ drop n xs) e ∙ append_assoc before (x ∷ []) (drop n xs)))
        (omega (arith, count, ap length e, length-append before (x ∷ [])))

    at_start : (after : List Claim) (y : Claim) → drop n xs ≡ y ∷ after → before_it c y
    at_start after y e =
        let split : xs ≡ take n xs ++ y ∷ after = sym whole ∙ ap (λ (ys : List Claim). take n xs ++ ys) e in
        subst (λ (z : Claim). before_it c z)
        (ap (λ (ys : List Claim). get_or ys n c) split ∙ get_or_at (take n xs) y after c n count)
        (first (omega (arith, ap length split, length-append (take n xs) (y ∷ after), count)))

-- a claim whose key is there
pub has_key : (xs : List Claim) (n : ℕ) (c : Claim) → n < length xs → less (claim_key c) (claim_key (get_or xs n c)) ≡ false
    → less (claim_key (get_or xs n c)) (claim_key c) ≡ false → Adds (λ x. x ≡ c) xs xs
has_key xs n c below one other = record {
  sorted = λ a. a;
  from = λ x i. inl i;
  kept = λ x i. i;
  has = λ x same. (
    get_or xs n c,
    from_contains xs (get_or xs n c) (n, below, get_or_default xs n (get_or xs n c) c below),
    less_neither (claim_key (get_or xs n c)) (claim_key c) (key_size (get_or xs n c) ∙ sym (key_size c)) other one
        ∙ ap claim_key (sym same),
  );
}

-- ---- all claims of an event

pub all_due : (heading : Heading) (h : List Event) (e : Event) (P T : Claim → Type 0) (xs ys : List Claim) → Adds P [] xs
    → Adds T xs ys → ((c : Claim) → P c → IsDue heading h e c) → ((c : Claim) → T c → IsDue heading h e c)
    → ((c : Claim) → IsDue heading h e c → P c ⊎ T c)
    → ((c d : Claim) → IsDue heading h e c → IsDue heading h e d → claim_key c ≡ claim_key d → c ≡ d)
    → AreDue heading h e ys
all_due heading h e P T xs ys a b left right parts one =
    all (adds_more P T (IsDue heading h e) [] xs ys a b left right parts)
  where
    due : Adds (IsDue heading h e) [] ys → (c : Claim) → In ys c → IsDue heading h e c
    due both c i = elim (both.from c i) [ inl none ↦ absurd none | inr k ↦ k ]

    all : Adds (IsDue heading h e) [] ys → AreDue heading h e ys
    all both = record {
      sorted = both.sorted tt;
      sound = λ c i. due both c (from_contains ys c i);
      complete = λ c k. let has = both.has c k in
          to_contains ys c (subst (λ (x : Claim). In ys x) (one has.0 c (due both has.0 has.1) k has.2) has.1);
    }
