-- What one call takes from the source. No public contract cites these words.
use Rattle.std.specs.Prelude.{◌≡◌, ◌≢◌, ℕ, ◌+◌, ◌≤◌, List, [], ◌∷◌, ◌++◌, length, Option, false}
use Rattle.bbm_io.specs.Faults.{Rose}
use Rattle.bbm_io.specs.Flow.{preceded, AtEnd}
use Rattle.bbm_io.specs.Reading.{Reading}
use Rattle.bbm_session.specs.declared.line.Piece.{Piece}
use Rattle.bbm_session.specs.declared.line.Piece.TheVariants.{Line, Rest, TooLong, ReadFault}

-- a byte that is no newline comes after these 200
pub record IsLong (kept : List ℕ) (byte : ℕ) (old new : Option (List ℕ)) : Type 0 where
  pub no_newline : byte ≢ 10
  pub kept_bytes : length kept ≡ 200
  pub taken : old ≡ preceded (kept ++ byte ∷ []) new

-- what was taken, by what stood there: the bytes that were kept, and behind them the newline, nothing more
-- at all, or a byte that makes the line too long
abbrev pub Takes : Piece → List ℕ → Option (List ℕ) → Option (List ℕ) → Type 0
Takes Line kept old new = old ≡ preceded (kept ++ 10 ∷ []) new
Takes Rest kept old new = (old ≡ preceded kept new) × AtEnd new
Takes TooLong kept old new = (byte : ℕ) × IsLong kept byte old new
Takes ReadFault kept old new = old ≡ preceded kept new

-- after a line the reader is sound, and it took at most 201 bytes more
abbrev pub AddsUp : Piece → Reading → Reading → Type 0
AddsUp Line was now = (now.failed ≡ false) × (now.taken ≤ was.taken + 201)
AddsUp Rest was now = (now.failed ≡ false) × (now.taken ≤ was.taken + 201)
AddsUp TooLong was now = Unit {0}
AddsUp ReadFault was now = Unit {0}

-- the count of faults rose where a read failed, and else it stays
abbrev pub Counted : Piece → ℕ → ℕ → Type 0
Counted Line faults faults' = faults' ≡ faults
Counted Rest faults faults' = faults' ≡ faults
Counted TooLong faults faults' = faults' ≡ faults
Counted ReadFault faults faults' = Rose faults faults'
