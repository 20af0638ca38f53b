-- The parts of an entry one below the other: their kinds, and their regions, each inside that of a part above.
use Rattle.bbm_rules.proofs.Common.{◌≡◌, refl, ℕ, suc, ◌+◌, ◌-◌, ◌*◌, ◌≤◌, ◌⊎◌, nat_le, true, List, [], ◌∷◌, Contains}
use Rattle.bbm_rules.proofs.Common.{sym, ◌∙◌, ap, subst, inl, inr, arith, and_from, le-leb, holds, index_of, page_of}
use Rattle.bbm_rules.proofs.Common.{contains_cases, contains_head, contains_more, contains_none}
use Rattle.std.proofs.Common.{mul-le-mul_right}
use Rattle.bbm_rules.specs.Prelude.{input_pages}
use Rattle.bbm_tlb_machine.specs.Entry.{Part, region_in}
use Rattle.bbm_tlb_machine.specs.Invariant.{Chained, IsBelow}
use Rattle.bbm_tlb_machine.proofs.Descs.{pages_below, some_pages}

-- what holds of the last part, and of each part that is above one of which it holds, holds of all of them
pub all_chained : (P : Part → Type 0) (part : Part) (above : List Part) → Chained part above
    → ((lower upper : Part) → Contains (part ∷ above) lower → IsBelow lower upper → P lower → P upper)
    → P part → (q : Part) → Contains (part ∷ above) q → P q
all_chained P part [] c step first q i =
    elim (contains_cases [] part q i) [
      | inl e ↦ subst P e first
      | inr j ↦ absurd (contains_none q j)
    ]
all_chained P part (a ∷ above) c step first q i =
    elim (contains_cases (a ∷ above) part q i) [
      | inl e ↦ subst P e first
      | inr j ↦ all_chained P a above c.1 (λ l u m. step l u (contains_more (a ∷ above) part l m))
          (step part a (contains_head (a ∷ above) part) c.0 first) q j
    ]

pub chain_kind : (part : Part) (above : List Part) → Chained part above → (q : Part) → Contains (part ∷ above) q → q.kind ≡ part.kind
chain_kind part above c =
    all_chained (λ (q : Part). q.kind ≡ part.kind) part above c (λ lower upper i b e. sym b.kind ∙ e) refl

-- a part is the last one, or another was read below it
pub last_or_above : (part : Part) (above : List Part) → Chained part above → (q : Part) → Contains (part ∷ above) q
    → (part ≡ q) ⊎ ((lower : Part) × Contains (part ∷ above) lower × IsBelow lower q)
last_or_above part above c =
    all_chained (λ (q : Part). (part ≡ q) ⊎ ((lower : Part) × Contains (part ∷ above) lower × IsBelow lower q)) part above c
    (λ lower upper i b e. inr (lower, i, b)) (inl refl)

-- the region of a part is inside that of another
pub record IsInside (upper lower : Part) : Type 0 where
  pub low : upper.first ≤ lower.first
  pub high : lower.first + input_pages lower.level ≤ upper.first + input_pages upper.level

index_small : (place : ℕ) → index_of place ≤ 511
index_small place = omega arith

one_inside : (lower upper : Part) → IsBelow lower upper → IsInside upper lower
one_inside lower upper c =
    let size : input_pages upper.level ≡ 512 * input_pages (suc upper.level)
    = pages_below upper.kind upper.level upper.value (page_of lower.place) c.inside in
    let level : input_pages lower.level ≡ input_pages (suc upper.level) = ap input_pages c.level in
    let most : index_of lower.place * input_pages lower.level ≤ 511 * input_pages lower.level
    = mul-le-mul_right (input_pages lower.level) (index_small lower.place) in
    let both = by lower.first upper.first (index_of lower.place * input_pages lower.level) (input_pages lower.level)
    (input_pages upper.level) c.region (size ∙ ap (λ (n : ℕ). 512 * n) (sym level)) most in
    record { low = both.0; high = both.1 }
  where
    by : (f g m i j : ℕ) → f ≡ g + m → j ≡ 512 * i → m ≤ 511 * i → (g ≤ f) × (f + i ≤ g + j)
    by f g m i j e s b = (omega (arith, e), omega (arith, e, s, b))

pub inside_of : (part : Part) (above : List Part) → Chained part above → (q : Part) → Contains (part ∷ above) q → IsInside q part
inside_of part above c =
    all_chained (λ (q : Part). IsInside q part) part above c (λ lower upper i b v. join lower upper (one_inside lower upper b) v)
    (record { low = omega arith; high = omega arith })
  where
    join : (lower upper : Part) → IsInside upper lower → IsInside lower part → IsInside upper part
    join lower upper u v = record { low = omega (arith, u.low, v.low); high = omega (arith, u.high, v.high) }

pub region_holds : (upper lower : Part) → IsInside upper lower → holds (region_in upper) (region_in lower) ≡ true
region_holds upper lower k =
    let u = some_pages upper.level in
    let l = some_pages lower.level in
    and_from (nat_le upper.first lower.first)
    (nat_le (lower.first + input_pages lower.level - 1) (upper.first + input_pages upper.level - 1))
    (le-leb upper.first lower.first k.low)
    (le-leb (lower.first + input_pages lower.level - 1) (upper.first + input_pages upper.level - 1)
    (by (lower.first + input_pages lower.level) (upper.first + input_pages upper.level) k.high))
  where
    by : (a b : ℕ) → a ≤ b → a - 1 ≤ b - 1
    by a b e = omega (arith, e)
