-- The digits that a number is written with are those that lead back to it, read one by one.
use Rattle.bbm_log_grammar.proofs.Common.{◌≡◌, ◌≢◌, ◌-◌, length, take, drop, get_or, ℕ, zero, suc, ◌+◌, ◌*◌, ◌/◌, ◌%◌}
use Rattle.bbm_log_grammar.proofs.Common.{◌^◌, ◌<◌, ◌≤◌, List, [], ◌∷◌, ◌++◌, Bool, true, false, ◌&&◌, cond, nat_lt}
use Rattle.bbm_log_grammar.proofs.Common.{◌==◌, inl, inr, refl, ap, sym, ◌∙◌, subst, Option, Some, None, arith}
use Rattle.bbm_log_grammar.proofs.Common.{digit_glyph, digit_value, digits_value, digits_value_after, ltb-true}
use Rattle.bbm_log_grammar.proofs.Common.{ltb-false, lt-ltb, nat_tests, append_assoc, append-nil, take_all, pow-suc}
use Rattle.bbm_log_grammar.proofs.Common.{option_and_then, bytes_eq-Decides, is_lower_digit, next_number, number_after}
use Rattle.bbm_log_grammar.proofs.Common.{number_of}
use Rattle.std.specs.Fmt.{digits_onto, digits}
use Rattle.std.proofs.lemmas.Str.{digit_value-digit_char}
use Rattle.std.proofs.lemmas.Bool.{and_parts, cases_lt}
use Rattle.std.proofs.lemmas.Bool.Decides.{eqb_tells}
use Rattle.std.specs.Prelude.{bytes_eq}
use Rattle.bbm_events.specs.Spelling.{where_spelled, decimal_value, hex_value}

-- what division by the base does
pub record IsBase (base : ℕ) : Type 0 where
  small : (n : ℕ) → n < base → n / base ≡ 0
  small_rest : (n : ℕ) → n < base → n % base ≡ n
  large : (n : ℕ) → base ≤ n → 0 < n / base
  rest : (n : ℕ) → n % base < base
  half : (n k : ℕ) → n < 2 * k → n / base < k
  pub joined : (p d : ℕ) → d < base → (p * base + d) / base ≡ p
  joined_rest : (p d : ℕ) → d < base → (p * base + d) % base ≡ d
  more : (p d : ℕ) → 0 < p → base ≤ p * base + d
  grows : (p d : ℕ) → p ≤ p * base + d
  low : base ≤ 16
  two : 2 ≤ base
  some : 0 < base

pub is_base_10 : IsBase 10
is_base_10 = record {
  small = λ n h. omega arith;
  small_rest = λ n h. omega arith;
  large = λ n h. omega arith;
  rest = λ n. omega arith;
  half = λ n k h. omega arith;
  joined = λ p d h. omega arith;
  joined_rest = λ p d h. omega arith;
  more = λ p d h. omega arith;
  grows = λ p d. omega arith;
  low = omega arith;
  two = omega arith;
  some = omega arith;
}

pub is_base_16 : IsBase 16
is_base_16 = record {
  small = λ n h. omega arith;
  small_rest = λ n h. omega arith;
  large = λ n h. omega arith;
  rest = λ n. omega arith;
  half = λ n k h. omega arith;
  joined = λ p d h. omega arith;
  joined_rest = λ p d h. omega arith;
  more = λ p d h. omega arith;
  grows = λ p d. omega arith;
  low = omega arith;
  two = omega arith;
  some = omega arith;
}

abbrev glyph : ℕ → ℕ
glyph d = digit_glyph false d

glyph_value : (d : ℕ) → d < 16 → digit_value (glyph d) ≡ d
glyph_value d h = digit_value-digit_char d (omega arith)

glyph_nonzero : (d : ℕ) → 0 < d → d < 16 → glyph d ≢ 48
glyph_nonzero d some h = λ e. grind (arith, nat_tests)

module _ (base : ℕ) (is : IsBase base) where
  abbrev spell : ℕ → ℕ → List ℕ → List ℕ
  spell k n acc = digits_onto k base false n acc

  spell_last : (k n : ℕ) (acc : List ℕ) → n < base → spell (suc k) n acc ≡ glyph n ∷ acc
  spell_last k n acc h =
      let none : n / base ≡ 0 = is.small n h in
      let all : n % base ≡ n = is.small_rest n h in
      rw (none, all) refl

  spell_next : (k n : ℕ) (acc : List ℕ) → base ≤ n → spell (suc k) n acc ≡ spell k (n / base) (glyph (n % base) ∷ acc)
  spell_next k n acc h =
      let more : (n / base == 0) ≡ false = grind (arith, nat_tests, is.large n h) in
      ap (λ (t : Bool). cond t (glyph (n % base) ∷ acc) (spell k (n / base) (glyph (n % base) ∷ acc))) more

  spell-append : (k n : ℕ) (acc : List ℕ) → spell k n acc ≡ spell k n [] ++ acc
  spell-append zero n acc = refl
  spell-append (suc k) n acc = elim (cases_lt n base) [
    | inl l ↦ spell_last k n acc l ∙ ap (λ (x : List ℕ). x ++ acc) (sym (spell_last k n [] l))
    | inr l ↦ spell_next k n acc l ∙ spell-append k (n / base) (glyph (n % base) ∷ acc)
        ∙ sym (append_assoc (spell k (n / base) []) (glyph (n % base) ∷ []) acc)
        ∙ ap (λ (x : List ℕ). x ++ acc) (sym (spell_next k n [] l ∙ spell-append k (n / base) (glyph (n % base) ∷ [])))
  ]

  half_below : (k n : ℕ) → n < 2 ^ suc k → n / base < 2 ^ k
  half_below k n h = is.half n (2 ^ k) (omega (arith, pow-suc 2 k))

  -- the limit of digits does not matter once it is large enough
  spell_enough : (j k n : ℕ) (acc : List ℕ) → n < 2 ^ suc j → n < 2 ^ suc k → spell (suc j) n acc ≡ spell (suc k) n acc
  spell_enough zero k n acc p q = let l : n < base = omega (arith, is.two) in spell_last zero n acc l ∙ sym (spell_last k n acc l)
  spell_enough (suc j) zero n acc p q = let l : n < base = omega (arith, is.two) in spell_last (suc j) n acc l ∙ sym (spell_last zero n acc l)
  spell_enough (suc j) (suc k) n acc p q = elim (cases_lt n base) [
    | inl l ↦ spell_last (suc j) n acc l ∙ sym (spell_last (suc k) n acc l)
    | inr l ↦ spell_next (suc j) n acc l ∙ spell_enough j k (n / base) (glyph (n % base) ∷ acc) (half_below (suc j) n p) (half_below (suc k) n q) ∙ sym (spell_next (suc k) n acc l)
  ]

  abbrev text : ℕ → List ℕ
  text n = digits base false n

  -- the digits of n, from its first digit on
  pub text_small : (n : ℕ) → n < base → text n ≡ glyph n ∷ []
  unfolding digits
  text_small n h = spell_last 63 n [] h

  pub text_more : (n : ℕ) → base ≤ n → n < 2 ^ 64 → text n ≡ text (n / base) ++ (glyph (n % base) ∷ [])
  unfolding digits
  text_more n h bound =
      spell_next 63 n [] h ∙ spell_enough 62 63 (n / base) (glyph (n % base) ∷ []) (is.half n (2 ^ 63) (omega arith)) (omega (arith, is.half n (2 ^ 63) (omega arith)))
      ∙ spell-append 64 (n / base) (glyph (n % base) ∷ [])

  -- digits that follow a number above 0
  text_joined : (p d : ℕ) → 0 < p → d < base → p * base + d < 2 ^ 64 → text (p * base + d) ≡ text p ++ (glyph d ∷ [])
  text_joined p d some h bound =
      let front : (p * base + d) / base ≡ p = is.joined p d h in
      let last : (p * base + d) % base ≡ d = is.joined_rest p d h in
      text_more (p * base + d) (is.more p d some) bound ∙ rw (front, last) refl

  -- each byte is a lower-case digit
  abbrev pub all_lower : List ℕ → Bool
  all_lower [] = true
  all_lower (c ∷ cs) = is_lower_digit base c && all_lower cs

  glyph_is_lower : (d : ℕ) → d < base → is_lower_digit base (glyph d) ≡ true
  glyph_is_lower d h =
      let value : digit_value (glyph d) ≡ d = glyph_value d (omega (arith, is.low)) in
      rw value (grind (arith, nat_tests))

  spell_all_lower : (k n : ℕ) (acc : List ℕ) → all_lower acc ≡ true → all_lower (spell k n acc) ≡ true
  spell_all_lower zero n acc h = h
  spell_all_lower (suc k) n acc h = by (n / base == 0) (spell_all_lower k (n / base) (glyph (n % base) ∷ acc) onto)
    where
      onto : all_lower (glyph (n % base) ∷ acc) ≡ true
      onto = rw (glyph_is_lower (n % base) (is.rest n)) h

      by : (t : Bool) → all_lower (spell k (n / base) (glyph (n % base) ∷ acc)) ≡ true → all_lower (cond t (glyph (n % base) ∷ acc) (spell k (n / base) (glyph (n % base) ∷ acc))) ≡ true
      by true more = onto
      by false more = more

  text_all_lower : (n : ℕ) → all_lower (text n) ≡ true
  unfolding digits
  text_all_lower n = spell_all_lower 64 n [] refl

  -- a list that begins with another byte than `0`
  abbrev pub Leads : List ℕ → Type 0
  Leads [] = ⊥
  Leads (c ∷ cs) = c ≢ 48

  spell_leads : (k n : ℕ) (acc : List ℕ) → 0 < n → n < 2 ^ suc k → Leads (spell (suc k) n acc)
  spell_leads zero n acc some bound =
      let l : n < base = omega (arith, is.two) in
      subst Leads (sym (spell_last zero n acc l)) (glyph_nonzero n some (omega (arith, is.low)))
  spell_leads (suc k) n acc some bound = elim (cases_lt n base) [
    | inl l ↦ subst Leads (sym (spell_last (suc k) n acc l)) (glyph_nonzero n some (omega (arith, is.low)))
    | inr l ↦ subst Leads (sym (spell_next (suc k) n acc l)) (spell_leads k (n / base) (glyph (n % base) ∷ acc) (is.large n l) (half_below (suc k) n bound))
  ]

  text_leads : (n : ℕ) → 0 < n → n < 2 ^ 64 → Leads (text n)
  unfolding digits
  text_leads n some bound = spell_leads 63 n [] some bound

  -- reading the digits again

  pub lower_below : (c : ℕ) → is_lower_digit base c ≡ true → digit_value c < base
  lower_below c h = by (nat_lt (digit_value c) base) refl h
    where
      by : (t : Bool) → nat_lt (digit_value c) base ≡ t → (t && (c == glyph (digit_value c))) ≡ true → digit_value c < base
      by true e f = ltb-true (digit_value c) base e
      by false e f = cc

  pub lower_glyph : (c : ℕ) → is_lower_digit base c ≡ true → c ≡ glyph (digit_value c)
  lower_glyph c h = by (nat_lt (digit_value c) base) h
    where
      by : (t : Bool) → (t && (c == glyph (digit_value c))) ≡ true → c ≡ glyph (digit_value c)
      by true f = grind (arith, nat_tests)
      by false f = cc

  value_grows : (p : ℕ) (ds : List ℕ) → p ≤ digits_value_after base p ds
  value_grows p [] = omega arith
  value_grows p (c ∷ cs) = omega (arith, is.grows p (digit_value c), value_grows (p * base + digit_value c) cs)

  text_after : (p : ℕ) (ds : List ℕ) → 0 < p → all_lower ds ≡ true → digits_value_after base p ds < 2 ^ 64 → text (digits_value_after base p ds) ≡ text p ++ ds
  text_after p [] some lower bound = sym (append-nil (text p))
  text_after p (c ∷ cs) some lower bound =
      let here = and_parts (is_lower_digit base c) (all_lower cs) lower in
      let more : digits_value_after base (p * base + digit_value c) cs < 2 ^ 64 = bound in
      let below : p * base + digit_value c < 2 ^ 64 = omega (arith, value_grows (p * base + digit_value c) cs) in
      text_after (p * base + digit_value c) cs (omega (arith, is.grows p (digit_value c))) here.1 bound
      ∙ ap (λ (x : List ℕ). x ++ cs) (text_joined p (digit_value c) some (lower_below c here.0) below)
      ∙ append_assoc (text p) (glyph (digit_value c) ∷ []) cs
      ∙ ap (λ (x : ℕ). text p ++ (x ∷ cs)) (sym (lower_glyph c here.0))

  -- a single digit, or digits of which the first is no zero, spell their value
  pub text_value : (c : ℕ) (cs : List ℕ) → (c ≡ 48 → cs ≡ []) → all_lower (c ∷ cs) ≡ true → digits_value base (c ∷ cs) < 2 ^ 64 → text (digits_value base (c ∷ cs)) ≡ c ∷ cs
  text_value c cs lead lower bound = elim (cases_lt 0 (digit_value c)) [
    | inl some ↦
        let start : digits_value base (c ∷ cs) ≡ digits_value_after base (digit_value c) cs = ap (λ (n : ℕ). digits_value_after base n cs) {x = 0 * base + digit_value c} {y = digit_value c} (omega arith) in
        ap text start ∙ text_after (digit_value c) cs some here.1 (subst (λ (n : ℕ). n < 2 ^ 64) start bound) ∙ ap (λ (x : List ℕ). x ++ cs) (one (digit_value c) refl)
    | inr none ↦
        let zero_here : digit_value c ≡ 0 = omega arith in
        let is_zero : c ≡ 48 = lower_glyph c here.0 ∙ ap glyph zero_here in
        let alone : cs ≡ [] = lead is_zero in
        ap text (ap (digits_value base) (ap (λ (x : List ℕ). c ∷ x) alone) ∙ start_zero zero_here) ∙ one 0 zero_here ∙ ap (λ (x : List ℕ). c ∷ x) (sym alone)
  ]
    where
      here : (is_lower_digit base c ≡ true) × (all_lower cs ≡ true)
      here = and_parts (is_lower_digit base c) (all_lower cs) lower

      one : (d : ℕ) → digit_value c ≡ d → text d ≡ c ∷ []
      one d e = ap text (sym e) ∙ text_small (digit_value c) (lower_below c here.0) ∙ ap (λ (x : ℕ). x ∷ []) (sym (lower_glyph c here.0))

      start_zero : digit_value c ≡ 0 → digits_value base (c ∷ []) ≡ 0
      start_zero e = omega (arith, e)

  -- what the reading digit by digit answers

  next_number_some : (n c : ℕ) {m : ℕ} → next_number base n c ≡ Some m → (is_lower_digit base c ≡ true) × (m ≡ n * base + digit_value c) × (m < 2 ^ 64)
  next_number_some n c {m = m} e = by (is_lower_digit base c) (nat_lt (n * base + digit_value c) (2 ^ 64)) refl refl e
    where
      by : (a b : Bool) → is_lower_digit base c ≡ a → nat_lt (n * base + digit_value c) (2 ^ 64) ≡ b → cond (a && b) (Some (n * base + digit_value c)) None ≡ Some m → (is_lower_digit base c ≡ true) × (m ≡ n * base + digit_value c) × (m < 2 ^ 64)
      by true true p q f =
          let same : m ≡ n * base + digit_value c = cc in
          (p, same, subst (λ (x : ℕ). x < 2 ^ 64) (sym same) (ltb-true (n * base + digit_value c) (2 ^ 64) q))
      by true false p q f = cc
      by false b p q f = cc

  next_number_none : (n c : ℕ) → next_number base n c ≡ None → is_lower_digit base c ≡ true → 2 ^ 64 ≤ n * base + digit_value c
  next_number_none n c e lower = by (is_lower_digit base c) (nat_lt (n * base + digit_value c) (2 ^ 64)) refl refl e
    where
      by : (a b : Bool) → is_lower_digit base c ≡ a → nat_lt (n * base + digit_value c) (2 ^ 64) ≡ b → cond (a && b) (Some (n * base + digit_value c)) None ≡ None → 2 ^ 64 ≤ n * base + digit_value c
      by true true p q f = cc
      by true false p q f = ltb-false (n * base + digit_value c) (2 ^ 64) q
      by false b p q f = cc

  number_after_some : (n : ℕ) (ds : List ℕ) {v : ℕ} → n < 2 ^ 64 → number_after base n ds ≡ Some v → (all_lower ds ≡ true) × (v ≡ digits_value_after base n ds) × (v < 2 ^ 64)
  number_after_some n [] {v = v} bound e = let same : n ≡ v = cc in (refl, sym same, subst (λ (x : ℕ). x < 2 ^ 64) same bound)
  number_after_some n (c ∷ cs) {v = v} bound e = by (next_number base n c) refl (λ m w. number_after_some m cs) e
    where
      by : (o : Option ℕ) → next_number base n c ≡ o → ((m w : ℕ) → m < 2 ^ 64 → number_after base m cs ≡ Some w → (all_lower cs ≡ true) × (w ≡ digits_value_after base m cs) × (w < 2 ^ 64))
          → option_and_then (λ m. number_after base m cs) o ≡ Some v → (all_lower (c ∷ cs) ≡ true) × (v ≡ digits_value_after base n (c ∷ cs)) × (v < 2 ^ 64)
      by None f again g = cc
      by (Some m) f again g =
          let here = next_number_some n c f in
          let later = again m v here.2 g in
          (rw (here.0, later.0) refl, later.1 ∙ ap (λ (x : ℕ). digits_value_after base x cs) here.1, later.2)

  number_after_none : (n : ℕ) (ds : List ℕ) → number_after base n ds ≡ None → all_lower ds ≡ true → 2 ^ 64 ≤ digits_value_after base n ds
  number_after_none n [] e lower = cc
  number_after_none n (c ∷ cs) e lower = by (next_number base n c) refl (λ m. number_after_none m cs) e
    where
      here : (is_lower_digit base c ≡ true) × (all_lower cs ≡ true)
      here = and_parts (is_lower_digit base c) (all_lower cs) lower

      by : (o : Option ℕ) → next_number base n c ≡ o → ((m : ℕ) → number_after base m cs ≡ None → all_lower cs ≡ true → 2 ^ 64 ≤ digits_value_after base m cs)
          → option_and_then (λ m. number_after base m cs) o ≡ None → 2 ^ 64 ≤ digits_value_after base n (c ∷ cs)
      by None f again g = omega (arith, next_number_none n c f here.0, value_grows (n * base + digit_value c) cs)
      by (Some m) f again g =
          let step = next_number_some n c f in
          subst (λ (x : ℕ). 2 ^ 64 ≤ digits_value_after base x cs) step.1 (again m g here.1)

  -- where the value of the bytes is below 2 ^ 64 and they are its digits, they are read as it, and else not at all
  abbrev spelled : List ℕ → Option ℕ
  spelled ds = where_spelled (λ n. text n) ds (digits_value base ds)

  spelled_yes : (ds : List ℕ) → digits_value base ds < 2 ^ 64 → text (digits_value base ds) ≡ ds → spelled ds ≡ Some (digits_value base ds)
  spelled_yes ds bound same =
      let below : nat_lt (digits_value base ds) (2 ^ 64) ≡ true = lt-ltb (digits_value base ds) (2 ^ 64) bound in
      let equal : bytes_eq (text (digits_value base ds)) ds ≡ true = (bytes_eq-Decides (text (digits_value base ds)) ds).1 same in
      chosen true true below equal
    where
      chosen : (a b : Bool) → nat_lt (digits_value base ds) (2 ^ 64) ≡ a → bytes_eq (text (digits_value base ds)) ds ≡ b → cond (nat_lt (digits_value base ds) (2 ^ 64) && bytes_eq (text (digits_value base ds)) ds) (Some (digits_value base ds)) None ≡ cond (a && b) (Some (digits_value base ds)) None
      chosen a b p q = ap (λ (t : Bool). cond (t && bytes_eq (text (digits_value base ds)) ds) (Some (digits_value base ds)) None) p ∙ ap (λ (t : Bool). cond (a && t) (Some (digits_value base ds)) None) q

  spelled_no : (ds : List ℕ) → (digits_value base ds < 2 ^ 64 → text (digits_value base ds) ≡ ds → ⊥) → spelled ds ≡ None
  spelled_no ds never = by (nat_lt (digits_value base ds) (2 ^ 64)) (bytes_eq (text (digits_value base ds)) ds) refl refl
    where
      by : (a b : Bool) → nat_lt (digits_value base ds) (2 ^ 64) ≡ a → bytes_eq (text (digits_value base ds)) ds ≡ b → cond (a && b) (Some (digits_value base ds)) None ≡ None
      by true true p q = absurd (never (ltb-true (digits_value base ds) (2 ^ 64) p) ((bytes_eq-Decides (text (digits_value base ds)) ds).0 q))
      by true false p q = refl
      by false b p q = refl

  -- a number of digits that are its own is spelled with them
  text_not_nil : (n : ℕ) → n < 2 ^ 64 → text n ≡ [] → ⊥
  text_not_nil n bound e = elim (cases_lt 0 n) [
    | inl some ↦ subst Leads e (text_leads n some bound)
    | inr none ↦
        let single : text n ≡ glyph n ∷ [] = text_small n (omega (arith, is.two)) in
        (cc)
  ]

  -- two digits or more don't begin with `0`
  text_no_zero : (n c : ℕ) (cs : List ℕ) → n < 2 ^ 64 → text n ≡ 48 ∷ c ∷ cs → ⊥
  text_no_zero n c cs bound e = elim (cases_lt 0 n) [
    | inl some ↦ subst Leads e (text_leads n some bound) refl
    | inr none ↦
        let single : text n ≡ glyph n ∷ [] = text_small n (omega (arith, is.two)) in
        (cc)
  ]

  text_lower : (n : ℕ) (ds : List ℕ) → text n ≡ ds → all_lower ds ≡ true
  text_lower n ds e = ap all_lower (sym e) ∙ text_all_lower n

  by_digits : (c : ℕ) (cs : List ℕ) → (c ≡ 48 → cs ≡ []) → (o : Option ℕ) → number_after base 0 (c ∷ cs) ≡ o → spelled (c ∷ cs) ≡ o
  by_digits c cs lead None e = spelled_no (c ∷ cs) (λ bound same. let large = number_after_none 0 (c ∷ cs) e (text_lower (digits_value base (c ∷ cs)) (c ∷ cs) same) in omega (arith, large))
  by_digits c cs lead (Some v) e =
      let found = number_after_some 0 (c ∷ cs) (omega arith) e in
      let bound : digits_value base (c ∷ cs) < 2 ^ 64 = subst (λ (x : ℕ). x < 2 ^ 64) found.1 found.2 in
      spelled_yes (c ∷ cs) bound (text_value c cs lead found.0 bound) ∙ ap (λ (x : ℕ). Some x) (sym found.1)

  pub spelled_is : (ds : List ℕ) → spelled ds ≡ number_of base ds
  spelled_is [] = spelled_no [] (λ bound e. text_not_nil (digits_value base []) bound e)
  spelled_is (c ∷ []) = by_digits c [] (λ _. refl) (number_after base 0 (c ∷ [])) refl
  spelled_is (c ∷ d ∷ cs) = elim (eqb_tells c 48) [
    | inl zero_first ↦
        spelled_no (c ∷ d ∷ cs) (λ bound e. text_no_zero (digits_value base (c ∷ d ∷ cs)) d cs bound (e ∙ ap (λ (x : ℕ). x ∷ d ∷ cs) zero_first.1))
        ∙ sym (ap (λ (t : Bool). cond t None (number_after base 0 (c ∷ d ∷ cs))) zero_first.0)
    | inr other ↦
        by_digits c (d ∷ cs) (λ e. absurd (other.1 e)) (number_after base 0 (c ∷ d ∷ cs)) refl
        ∙ sym (ap (λ (t : Bool). cond t None (number_after base 0 (c ∷ d ∷ cs))) other.0)
  ]

-- `0x` and then a number in hex
abbrev pub hex_of : List ℕ → Option ℕ
hex_of [] = None
hex_of (c ∷ []) = None
hex_of (c ∷ x ∷ ds) = cond ((48 == c) && (120 == x)) (number_of 16 ds) None

pub decimal_is : (ds : List ℕ) → decimal_value ds ≡ number_of 10 ds
unfolding decimal_value
decimal_is ds = spelled_is 10 is_base_10 ds

pub hex_is : (ds : List ℕ) → hex_value ds ≡ hex_of ds
unfolding hex_value
hex_is [] = refl
hex_is (c ∷ []) = by (48 == c)
  where
    by : (a : Bool) → cond {A = Option ℕ} (a && false) (Some 0) None ≡ None
    by true = refl
    by false = refl
hex_is (c ∷ x ∷ ds) = by (48 == c) (120 == x)
  where
    value : ℕ
    value = digits_value 16 ds

    by : (a b : Bool) → cond (nat_lt value (2 ^ 64) && (a && (b && bytes_eq (digits 16 false value) ds))) (Some value) None ≡ cond (a && b) (number_of 16 ds) None
    by true true = spelled_is 16 is_base_16 ds
    by true false = never (nat_lt value (2 ^ 64))
      where
        never : (t : Bool) → cond (t && false) (Some value) None ≡ None
        never true = refl
        never false = refl
    by false b = never (nat_lt value (2 ^ 64))
      where
        never : (t : Bool) → cond (t && false) (Some value) None ≡ None
        never true = refl
        never false = refl

-- the same where the two bytes are read, in the form of a slice of the rest
pub hex_from_digits : (text : List ℕ) → 2 ≤ length text → get_or text 0 0 ≡ 48 → get_or text 1 0 ≡ 120 → hex_value text ≡ number_of 16 (take (length text - 2) (drop 2 text))
hex_from_digits [] some first second = absurd (omega arith)
hex_from_digits (c ∷ []) some first second = absurd (omega arith)
hex_from_digits (c ∷ x ∷ ds) some first second =
    let first_is : c ≡ 48 = first in
    let second_is : x ≡ 120 = second in
    let all : take (length (c ∷ x ∷ ds) - 2) ds ≡ ds = take_all (length (c ∷ x ∷ ds) - 2) ds (omega arith) in
    rw (first_is, second_is, hex_is, all) refl
