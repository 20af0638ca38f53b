-- The generated logs keep the rules: after each whole round all stands as before it.
use Rattle.bbm_rules.proofs.Common.{◌≡◌, ℕ, zero, suc, ◌+◌, ◌-◌, ◌*◌, ◌/◌, ◌%◌, ◌<◌, ◌≤◌, Bool, true, false, ◌==◌}
use Rattle.bbm_rules.proofs.Common.{nat_lt, List, ◌∷◌, None, is_none, refl, sym, ◌∙◌, subst, arith, if◌then◌else◌}
use Rattle.bbm_rules.proofs.Common.{true≢false, Option, Some, and_parts, eq-eqb, eqb-true, Kind, fits_heading, is_place}
use Rattle.bbm_rules.proofs.Common.{is_value, Event, Init, Null, Root, Unroot, Write, Dsb, Dmb, Isb, Tlbi, Msr, Lock}
use Rattle.bbm_rules.proofs.Common.{Unlock, Breach, keeps, limit_of}
use Rattle.bbm_regimes.specs.declared.regime.Kind.TheVariants.{El2, S2}
use Rattle.bbm_rules.specs.Broken.{broken}
use Rattle.bbm_rules.specs.Claims.{Patterns}
use Rattle.bbm_gen.specs.BelowGen.{Below}
use Rattle.bbm_gen.specs.Generated.{heading, el2_root, s2_root, slot, place_in, first_page, block, el2_step, s2_step}
use Rattle.bbm_gen.specs.Generated.{round_step, event_at, log_of}
use Rattle.bbm_gen.proofs.Numbers.{inside_el2, inside_s2, decoded_el2, decoded_s2, meets_el2, meets_s2, block_is_leaf}
use Rattle.bbm_gen.proofs.Numbers.{block_is_alone, el2_is_place, s2_is_place, page_is_value, block_is_value, is_writer}
use Rattle.bbm_gen.proofs.Standing.{of_round, opened, opened_clear}
use Rattle.bbm_gen.proofs.Rounds.{Made, Whole, el2_round, el2_whole, s2_round, s2_whole}

-- how many events come before the round r
abbrev before_round : ℕ → ℕ
before_round zero = 7
before_round (suc r) = suc (suc (suc (suc (suc (suc (suc (suc (before_round r))))))))

before_is : (r : ℕ) → before_round r ≡ 7 + 8 * r
before_is zero = refl
before_is (suc r) = let k = before_is r in omega (arith, k)

-- ---- the events of a round

in_round : (n r k i : ℕ) → i ≡ 7 + 8 * r + k → k < 8 → event_at n i ≡ round_step n r k
in_round n r k i is lt = rw (late, round, step) refl
  where
    late : nat_lt i 7 ≡ false
    late = grind (arith, is, lt)

    round : (i - 7) / 8 ≡ r
    round = omega (arith, is, lt)

    step : (i - 7) % 8 ≡ k
    step = omega (arith, is, lt)

even_step : (n r k : ℕ) → (r % 2 == 0) ≡ true → round_step n r k
    ≡ el2_step (r / 2 % 4) (place_in el2_root (slot n r)) (block r) (first_page (slot n r)) k
even_step n r k e = rw e refl

odd_step : (n r k : ℕ) → (r % 2 == 0) ≡ false → round_step n r k
    ≡ s2_step (place_in s2_root (slot n r)) (block r) (first_page (slot n r)) k
odd_step n r k e = rw e refl

eight : (h : List Event) (a0 a1 a2 a3 a4 a5 a6 a7 b0 b1 b2 b3 b4 b5 b6 b7 : Event) → a0 ≡ b0 → a1 ≡ b1 → a2 ≡ b2
    → a3 ≡ b3 → a4 ≡ b4 → a5 ≡ b5 → a6 ≡ b6 → a7 ≡ b7
    → (a7 ∷ a6 ∷ a5 ∷ a4 ∷ a3 ∷ a2 ∷ a1 ∷ a0 ∷ h) ≡ (b7 ∷ b6 ∷ b5 ∷ b4 ∷ b3 ∷ b2 ∷ b1 ∷ b0 ∷ h)
eight h a0 a1 a2 a3 a4 a5 a6 a7 b0 b1 b2 b3 b4 b5 b6 b7 e0 e1 e2 e3 e4 e5 e6 e7 = cc

module _ (n r : ℕ) where
  el2_log : (r % 2 == 0) ≡ true → log_of n (before_round (suc r))
      ≡ el2_round (r / 2 % 4) (place_in el2_root (slot n r)) (block r) (first_page (slot n r)) (log_of n (before_round r))
  el2_log e = eight (log_of n (before_round r)) _ _ _ _ _ _ _ _ _ _ _ _ _ _ _ _
      (in_round n r 0 (before_round r) (omega (arith, before_is r)) (omega arith) ∙ even_step n r 0 e)
      (in_round n r 1 (suc (before_round r)) (omega (arith, before_is r)) (omega arith) ∙ even_step n r 1 e)
      (in_round n r 2 (suc (suc (before_round r))) (omega (arith, before_is r)) (omega arith) ∙ even_step n r 2 e)
      (in_round n r 3 (suc (suc (suc (before_round r)))) (omega (arith, before_is r)) (omega arith) ∙ even_step n r 3 e)
      (in_round n r 4 (suc (suc (suc (suc (before_round r))))) (omega (arith, before_is r)) (omega arith)
      ∙ even_step n r 4 e)
      (in_round n r 5 (suc (suc (suc (suc (suc (before_round r)))))) (omega (arith, before_is r)) (omega arith)
      ∙ even_step n r 5 e)
      (in_round n r 6 (suc (suc (suc (suc (suc (suc (before_round r))))))) (omega (arith, before_is r)) (omega arith)
      ∙ even_step n r 6 e)
      (in_round n r 7 (suc (suc (suc (suc (suc (suc (suc (before_round r)))))))) (omega (arith, before_is r)) (omega arith)
      ∙ even_step n r 7 e)

  s2_log : (r % 2 == 0) ≡ false → log_of n (before_round (suc r))
      ≡ s2_round (place_in s2_root (slot n r)) (block r) (first_page (slot n r)) (log_of n (before_round r))
  s2_log e = eight (log_of n (before_round r)) _ _ _ _ _ _ _ _ _ _ _ _ _ _ _ _
      (in_round n r 0 (before_round r) (omega (arith, before_is r)) (omega arith) ∙ odd_step n r 0 e)
      (in_round n r 1 (suc (before_round r)) (omega (arith, before_is r)) (omega arith) ∙ odd_step n r 1 e)
      (in_round n r 2 (suc (suc (before_round r))) (omega (arith, before_is r)) (omega arith) ∙ odd_step n r 2 e)
      (in_round n r 3 (suc (suc (suc (before_round r)))) (omega (arith, before_is r)) (omega arith) ∙ odd_step n r 3 e)
      (in_round n r 4 (suc (suc (suc (suc (before_round r))))) (omega (arith, before_is r)) (omega arith)
      ∙ odd_step n r 4 e)
      (in_round n r 5 (suc (suc (suc (suc (suc (before_round r)))))) (omega (arith, before_is r)) (omega arith)
      ∙ odd_step n r 5 e)
      (in_round n r 6 (suc (suc (suc (suc (suc (suc (before_round r))))))) (omega (arith, before_is r)) (omega arith)
      ∙ odd_step n r 6 e)
      (in_round n r 7 (suc (suc (suc (suc (suc (suc (suc (before_round r)))))))) (omega (arith, before_is r)) (omega arith)
      ∙ odd_step n r 7 e)

  slot_below : slot n r < 512
  slot_below = omega arith

  made : (kind : Kind) → Made kind (block r)
  made kind = record { form = block_is_leaf (r % 512) (omega arith); alone = block_is_alone (r % 512) (omega arith) }

  after_round : Below → Whole (log_of n (before_round r)) → (c : Bool) → (r % 2 == 0) ≡ c
      → Whole (log_of n (before_round (suc r)))
  after_round b w true e = subst (λ (h : List Event). Whole h) (sym (el2_log e))
      (el2_whole b (log_of n (before_round r)) w (r / 2 % 4) (place_in el2_root (slot n r)) (block r) (first_page (slot n r))
      (omega arith) (inside_el2 (slot n r) slot_below) (made El2) (decoded_el2 (slot n r) slot_below)
      (meets_el2 (slot n r) slot_below))
  after_round b w false e = subst (λ (h : List Event). Whole h) (sym (s2_log e))
      (s2_whole b (log_of n (before_round r)) w (place_in s2_root (slot n r)) (block r) (first_page (slot n r))
      (inside_s2 (slot n r) slot_below) (made S2) (decoded_s2 (slot n r) slot_below) (meets_s2 (slot n r) slot_below))

whole_at : Below → (n r : ℕ) → Whole (log_of n (before_round r))
whole_at b n zero = record { stands = opened n; clear = opened_clear n }
whole_at b n (suc r) = after_round n r b (whole_at b n r) (r % 2 == 0) refl

-- ---- every log is the first part of one with whole rounds

down : (n m i : ℕ) → i ≤ m → keeps heading Patterns (log_of n m) ≡ true → keeps heading Patterns (log_of n i) ≡ true
down n zero i le k =
    let is : zero ≡ i = omega (arith, le) in subst (λ (j : ℕ). keeps heading Patterns (log_of n j) ≡ true) is k
down n (suc m) i le k = by (down n m i) (i == suc m) refl
  where
    by : (i ≤ m → keeps heading Patterns (log_of n m) ≡ true → keeps heading Patterns (log_of n i) ≡ true) → (c : Bool)
        → (i == suc m) ≡ c → keeps heading Patterns (log_of n i) ≡ true
    by shorter true e = subst (λ (j : ℕ). keeps heading Patterns (log_of n j) ≡ true) (sym (eqb-true i (suc m) e)) k
    by shorter false e =
        let apart : i ≡ suc m → ⊥ = λ is. true≢false (sym (eq-eqb i (suc m) is) ∙ e) in
        shorter (omega (arith, le, apart))
        (and_parts (keeps heading Patterns (log_of n m)) (is_none (broken heading Patterns (log_of n m) (event_at n m))) k).0

pub keeps_rules : Below → (n count : ℕ) → keeps heading Patterns (log_of n count) ≡ true
keeps_rules b n count = down n (before_round count) count (omega (arith, before_is count)) (whole_at b n count).stands.kept

none_is : (o : Option Breach) → is_none o ≡ true → o ≡ None
none_is None e = refl
none_is (Some breach) e = cc

pub each_unbroken : Below → (n i : ℕ) → broken heading Patterns (log_of n i) (event_at n i) ≡ None
each_unbroken b n i = none_is (broken heading Patterns (log_of n i) (event_at n i))
    (and_parts (keeps heading Patterns (log_of n i)) (is_none (broken heading Patterns (log_of n i) (event_at n i)))
    (keeps_rules b n (suc i))).1

-- ---- no event reaches a limit

unlimited : (h : List Event) (e : Event) → of_round e ≡ true → limit_of h e ≡ None
unlimited h (Write pe place value) is = refl
unlimited h (Dmb pe dsb) is = refl
unlimited h (Isb pe) is = refl
unlimited h (Tlbi pe op xt) is = refl
unlimited h (Dsb pe dsb) is = refl
unlimited h (Init pe page) is = cc
unlimited h (Null pe page) is = cc
unlimited h (Root pe kind lock page) is = cc
unlimited h (Unroot pe page) is = cc
unlimited h (Msr pe reg value) is = cc
unlimited h (Lock pe lock) is = cc
unlimited h (Unlock pe lock) is = cc

either : (c : Bool) (d e : Event) → of_round d ≡ true → of_round e ≡ true → of_round (if c then d else e) ≡ true
either true d e one other = one
either false d e one other = other

step_of_round : (n r k : ℕ) → of_round (round_step n r k) ≡ true
step_of_round n r k = either (r % 2 == 0) _ _
    (either (k == 0) _ _ refl (either (k == 1) _ _ refl (either (k == 2) _ _ refl (either (k == 3) _ _ refl
    (either (k == 4) _ _ refl (either (k == 5) _ _ refl (either (k == 6) _ _ refl refl)))))))
    (either (k == 0) _ _ refl (either (k == 1) _ _ refl (either (k == 2) _ _ refl (either (k == 3) _ _ refl
    (either (k == 4) _ _ refl (either (k == 5) _ _ refl (either (k == 6) _ _ refl refl)))))))

early : (n i : ℕ) → i < 7 → limit_of (log_of n i) (event_at n i) ≡ None
early n zero lt = refl
early n (suc zero) lt = refl
early n (suc (suc zero)) lt = refl
early n (suc (suc (suc zero))) lt = refl
early n (suc (suc (suc (suc zero)))) lt = refl
early n (suc (suc (suc (suc (suc zero))))) lt = refl
early n (suc (suc (suc (suc (suc (suc zero)))))) lt = refl
early n (suc (suc (suc (suc (suc (suc (suc i))))))) lt = absurd (omega (arith, lt))

pub no_limit : (n i : ℕ) → limit_of (log_of n i) (event_at n i) ≡ None
no_limit n i = by (nat_lt i 7) refl
  where
    by : (c : Bool) → nat_lt i 7 ≡ c → limit_of (log_of n i) (event_at n i) ≡ None
    by true e = early n i (grind (arith, e))
    by false e = rw e (unlimited (log_of n i) (round_step n ((i - 7) / 8) ((i - 7) % 8))
        (step_of_round n ((i - 7) / 8) ((i - 7) % 8)))

-- ---- each event fits the header

either_fits : (c : Bool) (d e : Event) → fits_heading heading d ≡ true → fits_heading heading e ≡ true
    → fits_heading heading (if c then d else e) ≡ true
either_fits true d e one other = one
either_fits false d e one other = other

el2_fits : (p place block page k : ℕ) → nat_lt p 4 ≡ true → is_place place ≡ true → is_value block ≡ true
    → is_value page ≡ true → fits_heading heading (el2_step p place block page k) ≡ true
el2_fits p place block page k pe at value operand =
    either_fits (k == 0) _ _ (rw (pe, at, value) refl) (either_fits (k == 1) _ _ pe
    (either_fits (k == 2) _ _ (rw (pe, at) refl) (either_fits (k == 3) _ _ pe
    (either_fits (k == 4) _ _ (rw (pe, operand) refl) (either_fits (k == 5) _ _ pe (either_fits (k == 6) _ _ pe pe))))))

s2_fits : (place block page k : ℕ) → is_place place ≡ true → is_value block ≡ true → is_value page ≡ true
    → fits_heading heading (s2_step place block page k) ≡ true
s2_fits place block page k at value operand =
    either_fits (k == 0) _ _ (rw (at, value) refl) (either_fits (k == 1) _ _ refl
    (either_fits (k == 2) _ _ (rw at refl) (either_fits (k == 3) _ _ refl
    (either_fits (k == 4) _ _ (rw operand refl) (either_fits (k == 5) _ _ refl (either_fits (k == 6) _ _ refl refl))))))

round_fits : (n r k : ℕ) → fits_heading heading (round_step n r k) ≡ true
round_fits n r k = either_fits (r % 2 == 0) _ _
    (el2_fits (r / 2 % 4) (place_in el2_root (slot n r)) (block r) (first_page (slot n r)) k
    (is_writer (r / 2 % 4) (omega arith)) (el2_is_place (slot n r) (slot_below n r))
    (block_is_value (r % 512) (omega arith)) (page_is_value (slot n r) (slot_below n r)))
    (s2_fits (place_in s2_root (slot n r)) (block r) (first_page (slot n r)) k (s2_is_place (slot n r) (slot_below n r))
    (block_is_value (r % 512) (omega arith)) (page_is_value (slot n r) (slot_below n r)))

pub event_fits : (n i : ℕ) → fits_heading heading (event_at n i) ≡ true
event_fits n i = either_fits (nat_lt i 7) _ _
    (either_fits (i == 0) _ _ refl (either_fits (i == 1) _ _ refl (either_fits (i == 2) _ _ refl
    (either_fits (i == 3) _ _ refl (either_fits (i == 4) _ _ refl (either_fits (i == 5) _ _ refl refl))))))
    (round_fits n ((i - 7) / 8) ((i - 7) % 8))
