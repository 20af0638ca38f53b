-- Sources and sinks over readers and writers of std.
use Rattle.std.specs.Prelude.{ℕ, ◌≡◌, ◌<◌, ◌≤◌, List, length, take, Option, Result, Ok, IfOk, OnErr}
use Rattle.std.specs.Io.KnownBytes.{Appends, Consumes, IsAtEnd, Keeps, prepend_known}

-- a source over a reader
pub record Reader (R : Type 0) : Type 0 where
  -- the bytes that were read ahead and not yet taken
  pub at_hand : List ℕ
  -- the reader, from which those bytes were read
  pub reader : R
  -- how many of its calls failed, up to 2^64 - 1
  pub faults : ℕ

-- The bytes still to come: those at hand, and then what the reader has left, where it tells that. The first
-- argument is what a reader tells.
abbrev pub unread : {R : Type 0} → (R → Option (List ℕ)) → Reader R → Option (List ℕ)
unread remaining s = prepend_known s.at_hand (remaining s.reader)

-- a sink over a writer
pub record Writer (W : Type 0) : Type 0 where
  pub writer : W
  -- how many of its calls failed, up to 2^64 - 1
  pub faults : ℕ

-- A read answers how many bytes it put at the front of a buffer, which holds these bytes then, out of what is known to
-- be left. Into a buffer with room it puts none only at the end; where it fails it takes none.
pub record ReadsInto {E : Type 0} (result : Result ℕ E) (buf : List ℕ) (old new : Option (List ℕ)) : Type 0 where
  pub bound : IfOk result (λ n. n ≤ length buf)
  pub bytes : IfOk result (λ n. Consumes old new (take n buf))
  pub end : result ≡ Ok 0 → 0 < length buf → IsAtEnd new
  pub kept : OnErr result (Keeps old new)

-- A write answers how many of the first bytes of a piece it added to what is known to be there, none where it fails.
pub record Writes {E : Type 0} (result : Result ℕ E) (piece : List ℕ) (old new : Option (List ℕ)) : Type 0 where
  pub bound : IfOk result (λ n. n ≤ length piece)
  pub bytes : IfOk result (λ n. Appends old new (take n piece))
  pub kept : OnErr result (Keeps old new)
