-- Sources and sinks in memory: their bytes, and which of their calls fail.
use Rattle.std.specs.Prelude.{ℕ, ◌+◌, ◌-◌, ◌^◌, ◌&&◌, List, Bool, nat_lt, nat_eq}
use Rattle.std.specs.List.{list_any}

-- a source in memory
pub record SourceState : Type 0 where
  -- the bytes still to come
  pub left : List ℕ
  -- the numbers of the calls that fail, counted from 1
  pub fails : List ℕ
  -- how many calls were made, up to 2^64 - 1
  pub calls : ℕ
  -- how many of them failed
  pub faults : ℕ

-- a sink in memory
pub record SinkState : Type 0 where
  -- the bytes taken
  pub held : List ℕ
  -- how many bytes it can hold
  pub room : ℕ
  -- the numbers of the calls that fail, counted from 1
  pub fails : List ℕ
  -- how many calls were made, up to 2^64 - 1
  pub calls : ℕ
  -- how many of them failed, up to 2^64 - 1
  pub faults : ℕ

-- Whether the next call after so many is one of those that fail. Calls past the number 2^64 - 1 have
-- no number, and aren't.
abbrev pub fails_next : List ℕ → ℕ → Bool
fails_next fails calls = nat_lt calls (2 ^ 64 - 1) && list_any (λ number. nat_eq number (calls + 1)) fails
