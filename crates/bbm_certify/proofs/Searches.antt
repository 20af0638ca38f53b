-- Searches through a log from its oldest event on.
use Rattle.bbm_certify.proofs.Common.{Kept, NoneBelow, IsFirst}
use Rattle.bbm_rules.proofs.Common.{◌≡◌, ℕ, zero, suc, ◌+◌, ◌-◌, ◌<◌, ◌≤◌, Bool, true, false, List, [], ◌∷◌, ◌++◌}
use Rattle.bbm_rules.proofs.Common.{length, take, drop, get_or, refl, sym, ◌∙◌, ap, subst, arith, inl, inr}
use Rattle.bbm_rules.proofs.Common.{append_assoc, length-append, cases_eq, true≢false, Some, reverse, reverse-append}
use Rattle.bbm_rules.proofs.Common.{drop_at, get_or_at, length-drop, length-take-le, take-append-drop, take_all}
use Rattle.bbm_rules.proofs.Common.{take_at, take_more, In, in_right, in_split}
use Rattle.std.proofs.Math.Seq.{drop-append_seam, take-append_seam}

-- ---- the parts of a list at an index

-- the item of an index, and those before and behind it
pub record At {A : Type 0} (xs : List A) (i : ℕ) : Type 0 where
  pub before : List A
  pub after : List A
  pub k : A
  pub split : xs ≡ before ++ k ∷ after
  pub at : length before ≡ i

pub at_index : {A : Type 0} (xs : List A) (i : ℕ) → i < length xs → At xs i
at_index [] i below = absurd (omega (arith, below))
at_index (k ∷ xs) zero below = record { before = []; after = xs; k = k; split = refl; at = refl }
at_index (k ∷ xs) (suc i) below =
    let a = at_index xs i (omega (arith, below)) in
    record { before = k ∷ a.before; after = a.after; k = a.k; split = cc; at = ap suc a.at }

-- the same as the code has it
abbrev pub at_here : {A : Type 0} (xs : List A) (i : ℕ) (k : A) → i < length xs → k ≡ get_or xs i k → At xs i
at_here {A} xs i k below is = record {
  before = take i xs;
  after = drop (i + 1) xs;
  k = k;
  split = sym (take-append-drop (i + 1) xs)
      ∙ (ap (λ (ks : List A). ks ++ drop (i + 1) xs) (take_more xs i k below)
      ∙ (append_assoc (take i xs) (get_or xs i k ∷ []) (drop (i + 1) xs)
      ∙ ap (λ (x : A). take i xs ++ x ∷ drop (i + 1) xs) (sym is)));
  at = length-take-le i xs (omega (arith, below));
}

-- two splits of one list, with as many items before, or as many behind
pub same_split : {A : Type 0} (xs ys as' bs : List A) (x y : A) → xs ++ x ∷ as' ≡ ys ++ y ∷ bs → length xs ≡ length ys
    → (xs ≡ ys) × (x ≡ y) × (as' ≡ bs)
same_split xs ys as' bs x y e size =
    let a = take-append_seam xs (x ∷ as') in
    let b = take-append_seam ys (y ∷ bs) in
    let c = drop-append_seam xs (x ∷ as') in
    let d = drop-append_seam ys (y ∷ bs) in
    ((cc), (cc), (cc))

pub same_behind : {A : Type 0} (xs ys as' bs : List A) (x y : A) → xs ++ x ∷ as' ≡ ys ++ y ∷ bs → length as' ≡ length bs
    → (xs ≡ ys) × (x ≡ y) × (as' ≡ bs)
same_behind xs ys as' bs x y e size =
    same_split xs ys as' bs x y e (omega (arith, ap length e, length-append xs (x ∷ as'), length-append ys (y ∷ bs), size))

drop_behind : {A : Type 0} (before after : List A) (x : A) (n : ℕ) → n ≡ length before + 1 → drop n (before ++ x ∷ after) ≡ after
drop_behind {A} before after x n at =
    ap (λ (xs : List A). drop n xs) (sym (append_assoc before (x ∷ []) after))
    ∙ drop_at (before ++ x ∷ []) after n (length-append before (x ∷ []) ∙ sym at)

pub parts_at : {A : Type 0} (xs before after : List A) (x k : A) (i : ℕ) → xs ≡ before ++ x ∷ after → length before ≡ i
    → k ≡ get_or xs i k → (take i xs ≡ before) × (k ≡ x) × (drop (i + 1) xs ≡ after)
parts_at xs before after x k i split at is =
    let a = take_at before (x ∷ after) i at in
    let b = get_or_at before x after k i at in
    let c = drop_behind before after x (i + 1) (omega (arith, at)) in
    ((cc), (cc), (cc))

-- what stands behind an index, and how the code has it
pub drop_split : {A : Type 0} (xs before after : List A) (x : A) (i : ℕ) → xs ≡ before ++ x ∷ after → length before ≡ i
    → drop (i + 1) xs ≡ after
drop_split xs before after x i split at = let c = drop_behind before after x (i + 1) (omega (arith, at)) in cc

pub behind : {A : Type 0} (xs : List A) (i : ℕ) → take (length xs - (i + 1)) (drop (i + 1) xs) ≡ drop (i + 1) xs
behind xs i = take_all (length xs - (i + 1)) (drop (i + 1) xs) (omega (arith, length-drop (i + 1) xs))

pub turned : {A : Type 0} (xs ys : List A) (k : A) → reverse (xs ++ k ∷ ys) ≡ reverse ys ++ k ∷ reverse xs
turned {A} xs ys k =
    reverse-append xs (k ∷ ys)
    ∙ (ap (λ (zs : List A). zs ++ reverse xs) (reverse-append (k ∷ []) ys)
    ∙ append_assoc (reverse ys) (k ∷ []) (reverse xs))

-- ---- what is in a list that is split

pub is_in : {A : Type 0} (xs before after : List A) (x : A) → xs ≡ before ++ x ∷ after → In xs x
is_in {A} xs before after x split = subst (λ (ys : List A). In ys x) (sym split) (in_split before after x)

pub is_behind : {A : Type 0} (xs before after : List A) (x y : A) → xs ≡ before ++ x ∷ after → In after y → In xs y
is_behind {A} xs before after x y split i =
    subst (λ (ys : List A). In ys y) (sym split) (in_right before (x ∷ after) y (inr i))

-- ---- one step of a search

module _ (test : List Kept → Kept → List Kept → Bool) (lo : ℕ) (log : List Kept) where
  -- no event below a number passes, so one that does has that number or a higher one
  pub past : (hi : ℕ) (before after : List Kept) (k : Kept) → NoneBelow test lo hi log → log ≡ before ++ k ∷ after
      → lo ≤ length before → test before k after ≡ true → hi ≤ length before
  past hi before after k none split above does =
      let never : length before < hi → ⊥ = λ lt. true≢false (sym does ∙ none before after k split above lt) in omega arith

  pub never : (before after : List Kept) (k : Kept) → NoneBelow test lo (length log) log → log ≡ before ++ k ∷ after
      → lo ≤ length before → test before k after ≡ true → ⊥
  never before after k none split above does =
      let le = past (length log) before after k none split above does in
      omega (arith, le, ap length split, length-append before (k ∷ after))

  pub none_yet : (hi : ℕ) → hi ≤ lo → NoneBelow test lo hi log
  none_yet hi le before after k split above below = absurd (omega (arith, le, above, below))

  module _ (i : ℕ) where
    pub none_left : length log ≤ i → NoneBelow test lo i log → NoneBelow test lo (length log) log
    none_left end none before after k split above below = none before after k split above (omega (arith, below, end))

    module _ (k : Kept) (at : i < length log) (is : k ≡ get_or log i k) where
      here : (before after : List Kept) (x : Kept) (b : Bool) → test (take i log) k (drop (i + 1) log) ≡ b
          → log ≡ before ++ x ∷ after → length before ≡ i → test before x after ≡ b
      here before after x b told split same = let parts = parts_at log before after x k i split same is in cc

      pub none_more : test (take i log) k (drop (i + 1) log) ≡ false → NoneBelow test lo i log
          → NoneBelow test lo (i + 1) log
      none_more told none before after x split above below =
          elim (cases_eq (length before) i) [
            | inl same ↦ here before after x false told split same
            | inr other ↦ none before after x split above (omega (arith, other, below))
          ]

      pub first_here : test (take i log) k (drop (i + 1) log) ≡ true → lo ≤ i → NoneBelow test lo i log
          → IsFirst test lo log (Some i)
      first_here told above none = (above, at, (λ before after x. here before after x true told), none)
