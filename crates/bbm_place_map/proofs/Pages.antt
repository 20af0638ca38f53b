-- Cells of a page, one more at a time.
use Rattle.bbm_place_map.proofs.Common.{◌≡◌, ◌≢◌, ℕ, ◌+◌, ◌<◌, ◌≤◌, Bool, true, false, nat_eq, nat_le, nat_lt, ap, sym}
use Rattle.bbm_place_map.proofs.Common.{◌∙◌, arith, inl, inr, if◌then◌else◌, cases_eq, cases_lt, cond-true, and_from}
use Rattle.bbm_place_map.proofs.Common.{le-leb, lt-leb, lt-ltb, in_page, put_here, put_away}
use Rattle.std.proofs.lemmas.Bool.{and_left, and_right, le-ltb}

pub inside : (b n j : ℕ) → b ≤ j → j < b + n → in_page b n j ≡ true
inside b n j low high = and_from (nat_le b j) (nat_lt j (b + n)) (le-leb b j low) (lt-ltb j (b + n) high)

pub before : (b n j : ℕ) → j < b → in_page b n j ≡ false
before b n j low = and_left (nat_le b j) (nat_lt j (b + n)) (lt-leb b j low)

pub behind : (b n j : ℕ) → b + n ≤ j → in_page b n j ≡ false
behind b n j high = and_right (nat_le b j) (nat_lt j (b + n)) (le-ltb j (b + n) high)

pub none_inside : (b j : ℕ) → in_page b 0 j ≡ false
none_inside b j = elim (cases_lt j b) [ inl low ↦ before b 0 j low | inr past ↦ behind b 0 j (omega arith) ]

page_more : (b n j : ℕ) → j ≢ b + n → in_page b (n + 1) j ≡ in_page b n j
page_more b n j other =
    elim (cases_lt j b) [
      | inl low ↦ before b (n + 1) j low ∙ sym (before b n j low)
      | inr at ↦
          elim (cases_lt j (b + n)) [
            | inl in' ↦ inside b (n + 1) j at (omega arith) ∙ sym (inside b n j at in')
            | inr past ↦ behind b (n + 1) j (omega arith) ∙ sym (behind b n j past)
          ]
    ]

pub one_more : {X : Type 0} (b n : ℕ) (d : X) (f g h : ℕ → X) → ((i : ℕ) → g i ≡ (if in_page b n i then d else f i))
    → ((i : ℕ) → h i ≡ (if nat_eq i (b + n) then d else g i)) → (i : ℕ) → h i ≡ (if in_page b (n + 1) i then d else f i)
one_more b n d f g h old new i =
    elim (cases_eq i (b + n)) [
      | inl same ↦
          put_here _ _ new i same ∙ sym (cond-true (in_page b (n + 1) i) d (f i) (inside b (n + 1) i (omega arith) (omega arith)))
      | inr other ↦ put_away _ _ new i other ∙ old i ∙ ap (λ (t : Bool). if t then d else f i) (sym (page_more b n i other))
    ]
