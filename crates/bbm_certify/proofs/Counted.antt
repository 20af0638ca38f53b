-- Where a claim has its place among others, and a number among others.
use Rattle.bbm_certify.proofs.Common.{insert, claim_key, less, Adds}
use Rattle.bbm_rules.proofs.Common.{◌≡◌, ℕ, ◌+◌, ◌-◌, ◌<◌, ◌≤◌, Bool, true, false, ◌||◌, ◌==◌, List, ◌∷◌, ◌++◌}
use Rattle.bbm_rules.proofs.Common.{length, take, drop, get_or, refl, sym, ◌∙◌, ap, subst, arith, inl, inr, cases_eq}
use Rattle.bbm_rules.proofs.Common.{get_or_default, take-append-drop, list_any-append, proved, Is, Claim, among}
use Rattle.bbm_certify.proofs.Adding.{before_it, has_key, inserted}
use Rattle.bbm_certify.proofs.Searches.{at_here, parts_at}

-- none from an index on comes before the claim
abbrev pub NoneAbove : List Claim → ℕ → Claim → Type 0
NoneAbove xs n c = (before after : List Claim) (x : Claim) → xs ≡ before ++ x ∷ after → n ≤ length before
    → less (claim_key x) (claim_key c) ≡ false

pub above_more : (xs : List Claim) (n : ℕ) (c x : Claim) → 0 < n → x ≡ get_or xs (n - 1) x
    → less (claim_key x) (claim_key c) ≡ false → NoneAbove xs n c → NoneAbove xs (n - 1) c
above_more xs n c x some is told all before after y split above =
    elim (cases_eq (length before) (n - 1)) [
      | inl at ↦ let parts = parts_at xs before after y x (n - 1) split at is in
          ap (λ (z : Claim). less (claim_key z) (claim_key c)) (sym parts.1) ∙ told
      | inr other ↦ all before after y split (omega (arith, other, above, some))
    ]

-- the last that comes before it
abbrev pub LastBefore : List Claim → ℕ → Claim → Type 0
LastBefore xs n c = (before after : List Claim) (x : Claim) → xs ≡ before ++ x ∷ after → length before + 1 ≡ n
    → less (claim_key x) (claim_key c) ≡ true

module _ (xs ys : List Claim) (n : ℕ) (c : Claim) (same : ys ≡ xs) where
  module _ (zs : List Claim) (within : n ≤ length ys) (last : LastBefore ys n c) (is : zs ≡ insert xs n c) where
    put_at : (n < length xs → before_it c (get_or xs n c)) → Adds (λ x. x ≡ c) xs zs
    put_at first =
        subst (λ (as' : List Claim). Adds (λ x. x ≡ c) xs as') (sym is) (inserted xs n c (omega (arith, within, ap length same))
        (λ before after x split at. last before after x (same ∙ split) at) first)

    pub put_last : length xs ≤ n → Adds (λ x. x ≡ c) xs zs
    put_last end = put_at (λ below. absurd (omega (arith, below, end)))

    pub put_before : (x : Claim) → x ≡ get_or xs n x → before_it c x → n < length xs → Adds (λ y. y ≡ c) xs zs
    put_before x at told below =
        put_at (λ lt. ap (λ (y : Claim). less (claim_key c) (claim_key y)) (sym (at ∙ get_or_default xs n x c below)) ∙ told)

  pub put_not : (x : Claim) → NoneAbove ys n c → x ≡ get_or xs n x → less (claim_key c) (claim_key x) ≡ false
      → n < length xs → Adds (λ y. y ≡ c) xs xs
  put_not x above at told below =
      let is : x ≡ get_or xs n c = at ∙ get_or_default xs n x c below in
      let here = at_here xs n x below at in
      has_key xs n c below (ap (λ (y : Claim). less (claim_key c) (claim_key y)) (sym is) ∙ told)
      (ap (λ (y : Claim). less (claim_key y) (claim_key c)) (sym is)
      ∙ above here.before here.after x (same ∙ here.split) (omega (arith, here.at)))

-- ---- numbers

pub among_put : (a x : ℕ) (xs zs : List ℕ) (n : ℕ) → zs ≡ insert xs n x → among a zs ≡ ((x == a) || among a xs)
among_put a x xs zs n is =
    ap (λ (ys : List ℕ). among a ys) is
    ∙ (list_any-append (λ (m : ℕ). m == a) (take n xs) (x ∷ drop n xs)
    ∙ (proved 3 (λ a b c. Is (a || (b || c)) (b || (a || c))) refl (among a (take n xs)) (x == a) (among a (drop n xs))
    ∙ ap (λ (b : Bool). (x == a) || b) (sym (list_any-append (λ (m : ℕ). m == a) (take n xs) (drop n xs))
    ∙ ap (λ (ys : List ℕ). among a ys) (take-append-drop n xs))))
