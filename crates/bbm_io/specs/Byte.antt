-- One byte of a source.
use Rattle.std.specs.Prelude.{ℕ, ◌≡◌, List, [], ◌∷◌, Option}
use Rattle.bbm_io.specs.declared.lines.Next.{Next}
use Rattle.bbm_io.specs.declared.lines.Next.TheVariants.{Byte, Nothing, Fault}
use Rattle.bbm_io.specs.Flow.{preceded, AtEnd}

-- What a read of one byte took, by its answer. The last two are what the source had left before and
-- after.
abbrev pub Gave : Next → Option (List ℕ) → Option (List ℕ) → Type 0
Gave (Byte b) old new = old ≡ preceded (b ∷ []) new
Gave Nothing old new = (old ≡ new) × AtEnd new
Gave Fault old new = old ≡ new
