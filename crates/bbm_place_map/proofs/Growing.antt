-- One more page.
use Rattle.bbm_place_map.proofs.Common.{◌≡◌, ◌≢◌, ℕ, ◌+◌, ◌*◌, ◌/◌, ◌%◌, ◌≤◌, false, nat_eq, ◌==◌, List, Option, Some}
use Rattle.bbm_place_map.proofs.Common.{None, refl, ap, sym, ◌∙◌, arith, inl, inr, ◌⊎◌, if◌then◌else◌, is_some}
use Rattle.bbm_place_map.proofs.Common.{option_map, cases_eq, same_Some, none-some, Numbered, Placed, at_index}
use Rattle.bbm_place_map.proofs.Common.{index_of, Entry, put_here, put_away, either}
use Rattle.bbm_lemmas.proofs.Numbers.{same_swapped}
use Rattle.bbm_place_map.proofs.Places.{at_same, cell_of, index_none}

-- a page without a base is given one behind all others
pub record Grown (old new : ℕ → Option ℕ) (page count : ℕ) : Type 0 where
  pub updates : (p : ℕ) → new p ≡ (if nat_eq p page then Some count else old p)
  pub free : old page ≡ None
  pub numbered : Numbered old count

module _ {old new : ℕ → Option ℕ} {page count : ℕ} (grown : Grown old new page count) where
  -- a page with a base is the new one, or was there
  which : (p b : ℕ) → new p ≡ Some b → ((p ≡ page) × (b ≡ count)) ⊎ ((old p ≡ Some b) × (b + 512 ≤ count))
  which p b h =
      either (cases_eq p page) (λ same. (same, same_Some b count (sym h ∙ put_here _ _ grown.updates p same)))
      (λ other. let is : old p ≡ Some b = sym (put_away _ _ grown.updates p other) ∙ h in (is, grown.numbered.within p b is))

  pub numbered_more : (more : ℕ) → count + 512 ≤ more → Numbered new more
  numbered_more more room = record {
    within = λ p b h. elim (which p b h) [ inl same ↦ let is = same.1 in omega arith | inr was ↦ let is = was.1 in omega arith ];
    apart = λ p q b c hp hq low high.
        elim (which p b hp) [
          | inl same ↦
              elim (which q c hq) [
                | inl same' ↦ same.0 ∙ sym same'.0
                | inr was' ↦ let is = same.1 in let in' = was'.1 in absurd (omega arith)
              ]
          | inr was ↦
              elim (which q c hq) [
                | inl same' ↦ let is = same'.1 in let in' = was.1 in absurd (omega arith)
                | inr was' ↦ grown.numbered.apart p q b c was.0 was'.0 low high
              ]
        ];
  }

  -- the index of an address of another page stays
  index_old : (a : ℕ) → a / 4096 * 4096 ≢ page → index_of new a ≡ index_of old a
  index_old a other =
      ap (λ (o : Option ℕ). if a % 8 == 0 then option_map (λ b. b + a % 4096 / 8) o else None) (put_away _ _ grown.updates (a / 4096 * 4096) other)

  none_old : (a : ℕ) → a / 4096 * 4096 ≡ page → index_of old a ≡ None
  none_old a same = index_none old a (ap old same ∙ grown.free)

  pub placed_more : (entries : List Entry) → Placed old entries → Placed new entries
  placed_more entries placed k e h =
      elim (cases_eq (e.place / 4096 * 4096) page) [
        | inl same ↦ absurd (none-some e.index (sym (none_old e.place same) ∙ placed k e h))
        | inr other ↦ index_old e.place other ∙ placed k e h
      ]

  new_none : {X : Type 0} (d : X) (f g : ℕ → X) → ((i : ℕ) → g i ≡ f i) → ((i : ℕ) → count ≤ i → f i ≡ d) → (a : ℕ)
      → a / 4096 * 4096 ≡ page → (o : Option ℕ) → index_of new a ≡ o → at_index d g o ≡ d
  new_none d f g same past a here None h = refl
  new_none d f g same past a here (Some j) h =
      let sum : count + a % 4096 / 8 ≡ j = cell_of new page count a j (put_here _ _ grown.updates page refl) here h in
      same j ∙ past j (omega arith)

  -- what is kept of each address stays, where nothing is kept past the count
  pub points_more : {X : Type 0} (d : X) (f g : ℕ → X) → ((i : ℕ) → g i ≡ f i) → ((i : ℕ) → count ≤ i → f i ≡ d) → (a : ℕ)
      → at_index d g (index_of new a) ≡ at_index d f (index_of old a)
  points_more d f g same past a =
      elim (cases_eq (a / 4096 * 4096) page) [
        | inl here ↦ new_none d f g same past a here (index_of new a) refl ∙ sym (ap (at_index d f) (none_old a here))
        | inr other ↦ at_same d f g same (index_of new a) ∙ ap (at_index d f) (index_old a other)
      ]

-- a test with its sides exchanged
pub flip : (key page p : ℕ) → key ≡ page → nat_eq key p ≡ nat_eq p page
flip key page p is = ap (λ (k : ℕ). nat_eq k p) is ∙ same_swapped page p

pub not_some : (o : Option ℕ) → is_some o ≡ false → o ≡ None
not_some None h = refl
not_some (Some x) h = cc
