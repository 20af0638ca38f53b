-- The lines of a text, read one after another, whatever is made of them. A fold over the lines, which knows nothing of
-- a reader. Source: project's own choice.
use Rattle.std.specs.Prelude.{◌≡◌, ℕ, suc, ◌+◌, Bool, ◌==◌, nat_lt, List, [], ◌∷◌, ◌++◌, length, drop, Option, Some}
use Rattle.std.specs.Prelude.{None, Result, Ok, Err, if◌then◌else◌}
use Rattle.bbm_events.specs.declared.malformed.Malformed.{Malformed as Cause}
use Rattle.bbm_events.specs.Heading.{Heading}
use Rattle.bbm_rules.specs.declared.verdict.Verdict.{Verdict}
use Rattle.bbm_rules.specs.declared.verdict.Verdict.TheVariants.{Malformed}

-- The lines of a text: the pieces that end in a newline, byte 10, without it; and what stands after the
-- last newline.
pub record Text : Type 0 where
  pub lines : List (List ℕ)
  pub rest : List ℕ

-- one more byte before a text
abbrev pub before_text : ℕ → List (List ℕ) → List ℕ → Text
before_text byte [] rest = record { lines = []; rest = byte ∷ rest }
before_text byte (line ∷ lines) rest = record { lines = (byte ∷ line) ∷ lines; rest = rest }

abbrev pub text_of : List ℕ → Text
text_of [] = record { lines = []; rest = [] }
text_of (byte ∷ bytes) = if byte == 10 then record { lines = [] ∷ (text_of bytes).lines; rest = (text_of bytes).rest }
    else before_text byte (text_of bytes).lines (text_of bytes).rest

-- the bytes of a text
abbrev pub bytes_of : List (List ℕ) → List ℕ → List ℕ
bytes_of [] rest = rest
bytes_of (line ∷ lines) rest = line ++ 10 ∷ bytes_of lines rest

-- A line is too long where 201 bytes come without a newline.
abbrev pub is_too_long : List ℕ → Bool
is_too_long line = nat_lt 200 (length line)

-- what a line decides: what is said of the whole text, or how far the lines are read with it
pub data Turned (P V : Type 0) : Type 0 where
  Halts : V → Turned P V
  Passes : P → Turned P V

-- What is made of lines. P says how far they were read, and V what is said of a text.
pub record Fold (P V : Type 0) : Type 0 where
  -- what a line of at most 200 bytes decides, by its number and how far the lines before it were read
  pub line : ℕ → P → List ℕ → Turned P V
  -- what is said at a line that is too long, or where more than 200 bytes stand after the last newline
  pub long : ℕ → P → V
  -- what is said at the end of the input, after at most 200 bytes since the last newline
  pub cut : ℕ → P → List ℕ → V

-- what line number n decides
unfoldable pub turned_by : {P V : Type 0} → Fold P V → ℕ → P → List ℕ → Turned P V
turned_by fold n p line = if is_too_long line then Halts (fold.long n p) else fold.line n p line

-- what is said at the end of the input, after these bytes since the last newline
unfoldable pub end_by : {P V : Type 0} → Fold P V → ℕ → P → List ℕ → V
end_by fold n p rest = if is_too_long rest then fold.long n p else fold.cut n p rest

-- what is said of a text, and the bytes that need not be read for it
pub record Ending (V : Type 0) : Type 0 where
  pub says : V
  pub unread : List ℕ

-- The bytes that stay unread behind a line that decides: of one that is too long 201 bytes are read.
abbrev pub unread_after : List ℕ → List (List ℕ) → List ℕ → List ℕ
unread_after line lines rest = if is_too_long line then drop 201 (bytes_of (line ∷ lines) rest) else bytes_of lines rest

-- what is said where a line decides it, and else at the lines behind it
abbrev pub ending_after : {P V : Type 0} → List ℕ → List (List ℕ) → List ℕ → (P → Ending V) → Turned P V → Ending V
ending_after line lines rest goes_on (Halts v) = record { says = v; unread = unread_after line lines rest }
ending_after line lines rest goes_on (Passes next) = goes_on next

-- from line number n on, where the lines before were read so far
abbrev pub ending_from : {P V : Type 0} → Fold P V → ℕ → P → List (List ℕ) → List ℕ → Ending V
ending_from fold n p [] rest = record { says = end_by fold n p rest; unread = drop 201 rest }
ending_from fold n p (line ∷ lines) rest =
    ending_after line lines rest (λ next. ending_from fold (suc n) next lines rest) (turned_by fold n p line)

-- what is said of these bytes, which begin with line number n
abbrev pub ending_at : {P V : Type 0} → Fold P V → ℕ → P → List ℕ → Ending V
ending_at fold n p bytes = ending_from fold n p (text_of bytes).lines (text_of bytes).rest

-- how far these lines are read, from line number n on, where none of them decides
abbrev pub passes_to : {P V : Type 0} → (P → Option P) → Turned P V → Option P
passes_to goes_on (Halts v) = None
passes_to goes_on (Passes next) = goes_on next

abbrev pub lines_from : {P V : Type 0} → Fold P V → ℕ → P → List (List ℕ) → Option P
lines_from fold n p [] = Some p
lines_from fold n p (line ∷ lines) = passes_to (λ next. lines_from fold (suc n) next lines) (turned_by fold n p line)

-- what the line of a header decides: its heading begins what is read, or why it is none is said
abbrev pub header_by : {P V : Type 0} → (Heading → P) → (Verdict → V) → ℕ → Result Heading Cause → Turned P V
header_by begun says n (Ok heading) = Passes (begun heading)
header_by begun says n (Err cause) = Halts (says (Malformed n cause))

-- The same as a sentence: what is said of lines, from line number n on, is what the first line that decides says, or
-- else what the end says.

-- a line decides, and none before it
pub record DecidedByLine {P V : Type 0} (fold : Fold P V) (n : ℕ) (p : P) (lines : List (List ℕ)) (says : V)
    : Type 0 where
  pub before : List (List ℕ)
  pub line : List ℕ
  pub behind : List (List ℕ)
  pub progress : P
  pub split : lines ≡ before ++ line ∷ behind
  pub read : lines_from fold n p before ≡ Some progress
  pub decides : turned_by fold (n + length before) progress line ≡ Halts says

-- no line decides, and so the end does
pub record DecidedByEnd {P V : Type 0} (fold : Fold P V) (n : ℕ) (p : P) (lines : List (List ℕ)) (rest : List ℕ)
    (says : V) : Type 0 where
  pub progress : P
  pub read : lines_from fold n p lines ≡ Some progress
  pub decides : end_by fold (n + length lines) progress rest ≡ says
