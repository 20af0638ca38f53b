-- The lesser of two numbers that may be missing. Source: project's own choice.
use Rattle.std.specs.Prelude.{ℕ, Bool, false, min, nat_le, Option, Some, None, unwrap_or}

abbrev pub lesser : Option ℕ → Option ℕ → Option ℕ
lesser None other = other
lesser (Some n) other = Some (min n (unwrap_or other n))

-- whether there is a number and it is at most this one
abbrev pub is_at_most : Option ℕ → ℕ → Bool
is_at_most None n = false
is_at_most (Some m) n = nat_le m n
