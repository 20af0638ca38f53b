-- Lines of a source, read one after another: a piece of at most 200 bytes up to each newline, out of
-- at most 2^40 bytes. Source: project's own choice.
use Rattle.std.specs.Prelude.{ℕ, ◌≡◌, ◌≢◌, ◌<◌, ◌≤◌, ◌+◌, ◌^◌, List, [], ◌∷◌, ◌++◌, length, take, Bool, true, Option}
use Rattle.std.specs.Prelude.{Result, Ok}
use Rattle.std.specs.Prelude.{Err, None, Some}
use Rattle.bbm_io.specs.declared.lines.LineOrEnd.{LineOrEnd}
use Rattle.bbm_io.specs.declared.lines.LineOrEnd.TheVariants.{Line, Cut, End}
use Rattle.bbm_io.specs.declared.lines.LineFault.{LineFault}
use Rattle.bbm_io.specs.declared.lines.LineFault.TheVariants.{TooLong, ReadFault, LogTooLong}
use Rattle.bbm_io.specs.Flow.{preceded, AtEnd, plain}

-- a reader of lines
pub record Reading : Type 0 where
  -- what the last call kept: the line or cut piece without its newline
  pub bytes : List ℕ
  -- how many bytes all calls took
  pub taken : ℕ
  -- whether the last call was a fault
  pub failed : Bool

-- What one call took from the source, by its answer: the bytes that it kept, and after a line its
-- newline, or the 201st byte of a line that is too long. The last two are what the source had left
-- before and after.
abbrev pub Took : Result LineOrEnd LineFault → List ℕ → Option (List ℕ) → Option (List ℕ) → Type 0
Took (Ok Line) kept old new = old ≡ preceded (kept ++ 10 ∷ []) new
Took (Ok Cut) kept old new = (old ≡ preceded kept new) × AtEnd new
Took (Ok End) kept old new = (old ≡ new) × AtEnd new
Took (Err TooLong) kept old new = (b : ℕ) × (b ≢ 10) × (old ≡ preceded (kept ++ b ∷ []) new)
Took (Err ReadFault) kept old new = old ≡ preceded kept new
Took (Err LogTooLong) kept old new = old ≡ preceded kept new

-- How many bytes one call kept, and how many were taken in all before and after, by its answer. Each
-- answer but a line, a line that is too long and a log that is too long comes from a call that still
-- might take a byte.
abbrev pub Counts : Result LineOrEnd LineFault → Reading → Reading → Type 0
Counts (Ok Line) was now =
    (length now.bytes ≤ 200) × (now.taken ≡ was.taken + length now.bytes + 1) × (now.taken ≤ 2 ^ 40)
Counts (Ok Cut) was now =
    (1 ≤ length now.bytes) × (length now.bytes ≤ 200) × (now.taken ≡ was.taken + length now.bytes)
    × (now.taken < 2 ^ 40)
Counts (Ok End) was now = (now.bytes ≡ []) × (now.taken ≡ was.taken) × (now.taken < 2 ^ 40)
Counts (Err TooLong) was now = (length now.bytes ≡ 200) × (now.taken ≡ was.taken + 201) × (now.taken ≤ 2 ^ 40)
Counts (Err ReadFault) was now =
    (length now.bytes ≤ 200) × (now.taken ≡ was.taken + length now.bytes) × (now.taken < 2 ^ 40)
Counts (Err LogTooLong) was now =
    (length now.bytes ≤ 200) × (now.taken ≡ was.taken + length now.bytes) × (now.taken ≡ 2 ^ 40)

-- where reading stands: the bytes of the line so far, how many were taken, and whether a call failed
abbrev pub reading : List ℕ → ℕ → Bool → Reading
reading bytes taken failed = record { bytes = bytes; taken = taken; failed = failed }

-- What one call read, by its answer: what it took from the source, how many bytes it kept and counted, and that it kept
-- no newline. The last two are what the source had left before and after.
pub record Reads (result : Result LineOrEnd LineFault) (was now : Reading) (old new : Option (List ℕ)) : Type 0 where
  pub took : Took result now.bytes old new
  pub counts : Counts result was now
  pub no_newline : plain now.bytes ≡ true

-- The next line lies whole in the bytes at hand: it is so many of them, at most 200, and then a newline.
pub record LiesWhole (count : ℕ) (hand : List ℕ) : Type 0 where
  pub newline : take (count + 1) hand ≡ take count hand ++ 10 ∷ []
  pub no_newline : plain (take count hand) ≡ true
  pub short : count ≤ 200
  pub within : count + 1 ≤ length hand
