-- The lines of bytes with more bytes behind them, and what any folds over lines say of them.
use Rattle.bbm_rules.specs.Fold.{Text, before_text, text_of, Fold, Turned, Halts, Passes, ending_after, ending_at}
use Rattle.bbm_rules.specs.Fold.{ending_from, passes_to, lines_from, turned_by}
use Rattle.bbm_rules.proofs.Common.{◌≡◌, ℕ, suc, ◌+◌, ◌≤◌, ◌==◌, Bool, true, false, if◌then◌else◌, List, [], ◌∷◌, ◌++◌}
use Rattle.bbm_rules.proofs.Common.{length, Option, Some, refl, ◌∙◌, ap, arith, le-ltb, is_too_long}
use Rattle.bbm_rules.proofs.Folds.{passed}
use Rattle.bbm_io.specs.Flow.{plain}
use Rattle.bbm_session.proofs.Texts.{text_of-line}

-- ---- the lines of bytes

-- bytes that are whole lines, with nothing behind the last newline
abbrev pub AreLines : List ℕ → Type 0
AreLines bytes = (text_of bytes).rest ≡ []

-- the lines of a text with those of another behind them
abbrev pub both : Text → Text → Text
both t more = record { lines = t.lines ++ more.lines; rest = more.rest }

abbrev with_byte : ℕ → Bool → Text → Text
with_byte b newline t =
    if newline then record { lines = [] ∷ t.lines; rest = t.rest } else before_text b t.lines t.rest

byte-both : (b : ℕ) (lines : List (List ℕ)) (rest : List ℕ) (more : Text) → (before_text b lines rest).rest ≡ []
    → before_text b (lines ++ more.lines) more.rest ≡ both (before_text b lines rest) more
byte-both b [] rest more h = cc
byte-both b (line ∷ lines) rest more h = refl

rest-of : (b : ℕ) (lines : List (List ℕ)) (rest : List ℕ) → (before_text b lines rest).rest ≡ [] → rest ≡ []
rest-of b [] rest h = cc
rest-of b (line ∷ lines) rest h = h

-- behind whole lines come the lines of what stands behind them
pub text_of-append : (bytes more : List ℕ) → AreLines bytes
    → text_of (bytes ++ more) ≡ both (text_of bytes) (text_of more)
text_of-append [] more h = refl
text_of-append (b ∷ bs) more h = by (b == 10) h (text_of-append bs more)
  where
    by : (newline : Bool) → (with_byte b newline (text_of bs)).rest ≡ []
        → (AreLines bs → text_of (bs ++ more) ≡ both (text_of bs) (text_of more))
        → with_byte b newline (text_of (bs ++ more)) ≡ both (with_byte b newline (text_of bs)) (text_of more)
    by true whole behind = ap (λ (t : Text). with_byte b true t) (behind whole)
    by false whole behind =
        ap (λ (t : Text). with_byte b false t) (behind (rest-of b (text_of bs).lines (text_of bs).rest whole))
        ∙ byte-both b (text_of bs).lines (text_of bs).rest (text_of more) whole

-- ---- what a fold says of lines and of those behind them

module _ {P V : Type 0} (fold : Fold P V) where
  -- lines that are passed begin with one that is
  passes : (goes_on : P → Option P) (q : P) (t : Turned P V) → passes_to goes_on t ≡ Some q
      → (next : P) × (t ≡ Passes next) × (goes_on next ≡ Some q)
  passes goes_on q (Halts v) read = cc
  passes goes_on q (Passes next) read = (next, refl, read)

  -- the lines behind these are read as far as these were
  pub lines-append : (n : ℕ) (p q : P) (lines more : List (List ℕ)) → lines_from fold n p lines ≡ Some q
      → lines_from fold n p (lines ++ more) ≡ lines_from fold (n + length lines) q more
  lines-append n p q [] more read =
      let same : p ≡ q = cc in
      let count : n ≡ n + 0 = omega arith in
      ap (λ (x : P). lines_from fold n x more) same ∙ ap (λ (m : ℕ). lines_from fold m q more) count
  lines-append n p q (line ∷ lines) more read =
      let k = passes (λ next. lines_from fold (suc n) next lines) q (turned_by fold n p line) read in
      let count : suc n + length lines ≡ n + suc (length lines) = omega arith in
      ap (passes_to (λ next. lines_from fold (suc n) next (lines ++ more))) k.1
      ∙ (lines-append (suc n) k.0 q lines more k.2 ∙ ap (λ (m : ℕ). lines_from fold m q more) count)

  pub ending-behind : (n : ℕ) (p q : P) (bytes more : List ℕ) → AreLines bytes
      → lines_from fold n p (text_of bytes).lines ≡ Some q
      → ending_at fold n p (bytes ++ more) ≡ ending_at fold (n + length (text_of bytes).lines) q more
  ending-behind n p q bytes more whole read =
      ap (λ (t : Text). ending_from fold n p t.lines t.rest) (text_of-append bytes more whole)
      ∙ passed fold n (n + length (text_of bytes).lines) p q (text_of bytes).lines (text_of more).lines
      (text_of more).rest refl read

  -- behind one line that is passed
  pub ending-passes : (n : ℕ) (p q : P) (line more : List ℕ) → plain line ≡ true → length line ≤ 200
      → fold.line n p line ≡ Passes q → ending_at fold n p (line ++ 10 ∷ more) ≡ ending_at fold (suc n) q more
  unfolding turned_by
  ending-passes n p q line more clean short passed =
      rw (text_of-line line more clean) (
      by (is_too_long line) (le-ltb 200 (length line) short)
      ∙ ap (ending_after line (text_of more).lines (text_of more).rest (λ next. ending_at fold (suc n) next more)) passed
      )
    where
      by : (b : Bool) → b ≡ false
          → ending_after line (text_of more).lines (text_of more).rest (λ next. ending_at fold (suc n) next more)
          (if b then Halts (fold.long n p) else fold.line n p line)
          ≡ ending_after line (text_of more).lines (text_of more).rest (λ next. ending_at fold (suc n) next more)
          (fold.line n p line)
      by false e = refl
      by true e = cc
