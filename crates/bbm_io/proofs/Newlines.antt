-- The bytes before the first newline.
use Rattle.std.proofs.Common.{◌≡◌, ℕ, zero, suc, ◌+◌, ◌-◌, ◌<◌, ◌≤◌, List, [], ◌∷◌, ◌++◌, length, take, min, Option}
use Rattle.std.proofs.Common.{None, Some, IfSome, Bool, true, false, cond, nat_eq, slice_index, get_or, refl, sym, ap}
use Rattle.std.proofs.Common.{subst, ◌∙◌, inl, inr, arith}
use Rattle.std.proofs.lemmas.Bool.{cases_eq, eqb-true, false_from_ne_true, false≢true}
use Rattle.std.proofs.lemmas.List.{get_or-take, length-take, take-take, take_more}
use Rattle.memchr.specs.Find.{IsFirstByte, NoneBefore, Nowhere, Passes, TakesFirst, is_byte, places, places_from}
use Rattle.bbm_io.specs.Flow.{plain}
use Rattle.bbm_io.specs.Reading.{LiesWhole}

-- bytes of which none is a newline
plain-front : (bytes : List ℕ) (at : ℕ) → at ≤ length bytes → ((k : ℕ) → k < at → nat_eq (slice_index bytes k) 10 ≡ false) → plain (take at bytes) ≡ true
plain-front bytes zero within none = refl
plain-front [] (suc at) within none = refl
plain-front (b ∷ bytes) (suc at) within none =
    rw (none zero (omega arith), plain-front bytes at (omega (arith, within)) (λ k below. none (suc k) (omega (arith, below)))) refl

-- the bytes before the first newline of a front part
pub plain-line : (r : Option ℕ) (bytes : List ℕ) (m : ℕ) → IsFirstByte (is_byte 10) (take m bytes) r → IfSome r (λ n. plain (take n bytes) ≡ true)
plain-line None bytes m first = tt
plain-line (Some at) bytes m (none, here) =
    let within : at < min m (length bytes) = omega (arith, none.high, length-take m bytes) in
    let front = plain-front (take m bytes) at (omega (arith, none.high)) (λ k below. false_from_ne_true _ (none.before k (omega arith) below)) in
    rw (← take-take at m bytes (omega (arith, within))) front

-- the first newline of a front part of at most 201 bytes ends a line that lies whole
pub lies-whole : (r : Option ℕ) (bytes : List ℕ) (m : ℕ) → IsFirstByte (is_byte 10) (take m bytes) r → m ≤ 201
    → IfSome r (λ n. LiesWhole n bytes)
lies-whole None bytes m first few = tt
lies-whole (Some at) bytes m (none, here) few =
    let within : at < min m (length bytes) = omega (arith, none.high, length-take m bytes) in
    record {
      newline = take_more bytes at 0 (omega (arith, within)) ∙ ap (λ (b : ℕ). take at bytes ++ b ∷ [])
          (sym (get_or-take m bytes at 0 (omega (arith, within))) ∙ eqb-true (slice_index (take m bytes) at) 10 here);
      no_newline = plain-line (Some at) bytes m (none, here);
      short = omega (arith, within, few);
      within = omega (arith, within);
    }

module _ (test : ℕ → Bool) (hay : List ℕ) where
  -- a place that doesn't pass, and those after it
  nor-first : (i j : ℕ) → test (slice_index hay i) ≡ false → Nowhere (Passes test hay) (i + 1) j → Nowhere (Passes test hay) i j
  nor-first i j miss later k low high =
      elim (cases_eq k i) [
        | inl same ↦ λ passes. false≢true (sym miss ∙ subst (λ (x : ℕ). test (slice_index hay x) ≡ true) same passes)
        | inr differs ↦ later k (omega (arith, differs)) high
      ]

  no-place : (i m : ℕ) → places_from test hay i m ≡ [] → Nowhere (Passes test hay) i (i + m)
  unfolding places_from
  no-place i zero none = λ k low high. absurd (omega arith)
  no-place i (suc m) none = by (no-place (i + 1) m) (test (slice_index hay i)) refl none
    where
      by : (places_from test hay (i + 1) m ≡ [] → Nowhere (Passes test hay) (i + 1) (i + 1 + m)) → (t : Bool) → test (slice_index hay i) ≡ t
          → cond t (i ∷ places_from test hay (i + 1) m) (places_from test hay (i + 1) m) ≡ [] → Nowhere (Passes test hay) i (i + suc m)
      by later true hit none = let some : suc (length (places_from test hay (i + 1) m)) ≡ 0 = ap length none in absurd (omega (arith, some))
      by later false miss none = nor-first i (i + suc m) miss (λ k low high. later none k low (omega arith))

  first-place : (i m n : ℕ) (rest : List ℕ) → places_from test hay i m ≡ n ∷ rest → NoneBefore (Passes test hay) i (i + m) n × Passes test hay n
  unfolding places_from
  first-place i zero n rest is = let none : 0 ≡ suc (length rest) = ap length is in absurd (omega (arith, none))
  first-place i (suc m) n rest is = by (first-place (i + 1) m n rest) (test (slice_index hay i)) refl is
    where
      by : (places_from test hay (i + 1) m ≡ n ∷ rest → NoneBefore (Passes test hay) (i + 1) (i + 1 + m) n × Passes test hay n) → (t : Bool)
          → test (slice_index hay i) ≡ t → cond t (i ∷ places_from test hay (i + 1) m) (places_from test hay (i + 1) m) ≡ n ∷ rest
          → NoneBefore (Passes test hay) i (i + suc m) n × Passes test hay n
      by more true hit is =
          let same : i ≡ n = ap (λ (l : List ℕ). get_or l 0 0) is in (
            record { low = omega (arith, same); high = omega (arith, same); before = λ k low high. absurd (omega (arith, same)) },
            subst (λ (x : ℕ). test (slice_index hay x) ≡ true) same hit,
          )
      by more false miss is =
          let later = more is in
          (record { low = omega (arith, later.0.low); high = omega (arith, later.0.high); before = nor-first i n miss later.0.before }, later.1)

-- the first of the places of newlines is the first newline
pub first-of-places : (hay before : List ℕ) (r : Option ℕ) (after : List ℕ) → before ≡ places (is_byte 10) hay → TakesFirst before r after → IsFirstByte (is_byte 10) hay r
first-of-places hay before None after is took =
    let all : length hay ≡ length hay - 0 = omega arith in
    let none = no-place (is_byte 10) hay 0 (length hay) (ap (places_from (is_byte 10) hay 0) all ∙ sym is ∙ took.0) in
    λ k low high. none k low (omega (arith, high))
first-of-places hay before (Some n) after is took =
    let all : length hay ≡ length hay - 0 = omega arith in
    let first = first-place (is_byte 10) hay 0 (length hay) n after (ap (places_from (is_byte 10) hay 0) all ∙ sym is ∙ took) in
    (record { low = first.0.low; high = omega (arith, first.0.high); before = first.0.before }, first.1)
