-- Numbers of pages in lists.
use Rattle.std.proofs.Common.{◌≡◌, ◌∙◌, ℕ, zero, suc, ◌<◌, inl, inr, Bool, true, false, List, [], ◌∷◌, ◌++◌, length}
use Rattle.std.proofs.Common.{if◌then◌else◌, nat_eq, refl, sym, ap, Option, Some, None, is_some, slice_get, option_map}
use Rattle.std.proofs.lemmas.Bool.{cases_Bool, cond-true, cond-false, eq-eqb, eqb-true, ne_eqb, false≢true}
use Rattle.std.proofs.lemmas.Option.{none-some, same_Some, slice_get_within}
use Rattle.std.specs.Prelude.{IfSome}
use Rattle.bbm_page_map.specs.PageLists.{number_in}

number_here : (q : ℕ) (qs : List ℕ) (p : ℕ) → nat_eq q p ≡ true → number_in (q ∷ qs) p ≡ Some 0
number_here q qs p here = cond-true (nat_eq q p) (Some 0) (option_map (λ n. suc n) (number_in qs p)) here

number_off : (q : ℕ) (qs : List ℕ) (p : ℕ) → nat_eq q p ≡ false
    → number_in (q ∷ qs) p ≡ option_map (λ n. suc n) (number_in qs p)
number_off q qs p off = cond-false (nat_eq q p) (Some 0) (option_map (λ n. suc n) (number_in qs p)) off

mapped : (o : Option ℕ) (n : ℕ) → option_map (λ n. suc n) o ≡ Some n → (k : ℕ) × (o ≡ Some k) × (suc k ≡ n)
mapped None n h = absurd (none-some n h)
mapped (Some k) n h = (k, refl, same_Some (suc k) n h)

-- a page stands where its number says
pub number_is : (pages : List ℕ) (p n : ℕ) → number_in pages p ≡ Some n → slice_get pages n ≡ Some p
number_is [] p n is = absurd (none-some n is)
number_is (q ∷ qs) p n is =
    elim (cases_Bool (nat_eq q p)) [
      | inl here ↦
          let first : 0 ≡ n = same_Some 0 n (sym (number_here q qs p here) ∙ is) in
          ap (slice_get (q ∷ qs)) (sym first) ∙ ap (λ (x : ℕ). Some x) (eqb-true q p here)
      | inr off ↦
          let m = mapped (number_in qs p) n (sym (number_off q qs p off) ∙ is) in
          ap (slice_get (q ∷ qs)) (sym m.2) ∙ number_is qs p m.0 m.1
    ]

pub number_within : (pages : List ℕ) (p n : ℕ) → number_in pages p ≡ Some n → n < length pages
number_within pages p n is = slice_get_within pages n p (number_is pages p n is)

still_some : (o : Option ℕ) → is_some (option_map (λ n. suc n) o) ≡ is_some o
still_some None = refl
still_some (Some n) = refl

-- a page that stands there has a number
pub some_number : (pages : List ℕ) (p k : ℕ) → slice_get pages k ≡ Some p → is_some (number_in pages p) ≡ true
some_number [] p k at = absurd (none-some p at)
some_number (q ∷ qs) p zero at = ap is_some (number_here q qs p (eq-eqb q p (same_Some q p at)))
some_number (q ∷ qs) p (suc k) at =
    elim (cases_Bool (nat_eq q p)) [
      | inl here ↦ ap is_some (number_here q qs p here)
      | inr off ↦ ap is_some (number_off q qs p off) ∙ still_some (number_in qs p) ∙ some_number qs p k at
    ]

-- one that stands nowhere has none
pub number_none : (pages : List ℕ) (p : ℕ) → ((k : ℕ) → slice_get pages k ≡ Some p → ⊥) → number_in pages p ≡ None
number_none pages p nowhere = by (number_in pages p) refl
  where
    by : (o : Option ℕ) → number_in pages p ≡ o → o ≡ None
    by None is = refl
    by (Some n) is = absurd (nowhere n (number_is pages p n is))

-- and one that stands there alone has the number of its place
pub number_at : (pages : List ℕ) (p n : ℕ) → slice_get pages n ≡ Some p
    → ((j : ℕ) → slice_get pages j ≡ Some p → j ≡ n) → number_in pages p ≡ Some n
number_at pages p n at only = by (number_in pages p) refl
  where
    by : (o : Option ℕ) → number_in pages p ≡ o → o ≡ Some n
    by None is = absurd (false≢true (sym (ap is_some is) ∙ some_number pages p n at))
    by (Some k) is = ap (λ (x : ℕ). Some x) (only k (number_is pages p k is))

-- the numbers once a page comes last that has none yet
pub number_push : (pages : List ℕ) (p q : ℕ) → number_in pages p ≡ None
    → number_in (pages ++ p ∷ []) q ≡ (if nat_eq p q then Some (length pages) else number_in pages q)
number_push [] p q none = refl
number_push (x ∷ xs) p q none =
    elim (cases_Bool (nat_eq x q)) [
      | inl here ↦
          let off : nat_eq p q ≡ false = ne_eqb p q (λ same. differs same here) in
          number_here x (xs ++ p ∷ []) q here ∙ sym (number_here x xs q here)
          ∙ sym (cond-false (nat_eq p q) (Some (suc (length xs))) (number_in (x ∷ xs) q) off)
      | inr off ↦
          number_off x (xs ++ p ∷ []) q off ∙ ap (option_map (λ n. suc n)) (number_push xs p q rest)
          ∙ pull (nat_eq p q) ∙ sym (ap (λ (o : Option ℕ). if nat_eq p q then Some (suc (length xs)) else o)
          (number_off x xs q off))
    ]
  where
    known : (o : Option ℕ) → option_map (λ n. suc n) o ≡ None → o ≡ None
    known None h = refl
    known (Some k) h = absurd (none-some (suc k) (sym h))

    apart : nat_eq x p ≡ false
    apart = ne_eqb x p (λ same. absurd (none-some 0 (sym none ∙ number_here x xs p (eq-eqb x p same))))

    rest : number_in xs p ≡ None
    rest = known (number_in xs p) (sym (number_off x xs p apart) ∙ none)

    differs : p ≡ q → nat_eq x q ≡ true → ⊥
    differs same here = none-some 0 (sym none ∙ number_here x xs p (eq-eqb x p (eqb-true x q here ∙ sym same)))

    pull : (b : Bool) → option_map (λ n. suc n) (if b then Some (length xs) else number_in xs q)
        ≡ (if b then Some (suc (length xs)) else option_map (λ n. suc n) (number_in xs q))
    pull true = refl
    pull false = refl

-- a page that has no number stands nowhere
pub numberless : (pages : List ℕ) (p : ℕ) → number_in pages p ≡ None → (k : ℕ) → slice_get pages k ≡ Some p → ⊥
numberless pages p none k at = false≢true (sym (ap is_some none) ∙ some_number pages p k at)

-- a page that comes last changes no other number
pub number_kept : (pages : List ℕ) (p q n : ℕ) → number_in pages p ≡ None → number_in pages q ≡ Some n
    → number_in (pages ++ p ∷ []) q ≡ Some n
number_kept pages p q n none is =
    number_push pages p q none
    ∙ cond-false (nat_eq p q) (Some (length pages)) (number_in pages q)
    (ne_eqb p q (λ same. none-some n (sym none ∙ ap (number_in pages) same ∙ is))) ∙ is

pub found_kept : (pages : List ℕ) (p : ℕ) → number_in pages p ≡ None → (recent : Option (ℕ × ℕ))
    → IfSome recent (λ r. number_in pages r.0 ≡ Some r.1)
    → IfSome recent (λ r. number_in (pages ++ p ∷ []) r.0 ≡ Some r.1)
found_kept pages p none None found = found
found_kept pages p none (Some r) found = number_kept pages p r.0 r.1 none found
