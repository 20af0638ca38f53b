-- A number, digit by digit.
use Rattle.std.specs.Prelude.{ℕ, ◌+◌, ◌*◌, ◌/◌, ◌%◌, ◌^◌, List, [], ◌∷◌, ◌++◌, Bool, false, ◌&&◌, nat_lt, ◌==◌}
use Rattle.std.specs.Prelude.{if◌then◌else◌, Option}
use Rattle.std.specs.Prelude.{Some, None}
use Rattle.std.specs.Char.{digit_value}
use Rattle.std.specs.Fmt.{digit_glyph}
use Rattle.std.specs.Option.{option_and_then}

-- the byte is a lower-case digit in the base
abbrev pub is_lower_digit : ℕ → ℕ → Bool
is_lower_digit base byte = nat_lt (digit_value byte) base && byte == digit_glyph false (digit_value byte)

-- the number with one digit more, where the byte is one and the number is below 2 ^ 64
abbrev pub next_number : ℕ → ℕ → ℕ → Option ℕ
next_number base n byte =
    if is_lower_digit base byte && nat_lt (n * base + digit_value byte) (2 ^ 64)
    then Some (n * base + digit_value byte) else None

-- the number with all these digits more
abbrev pub number_after : ℕ → ℕ → List ℕ → Option ℕ
number_after base n [] = Some n
number_after base n (byte ∷ bytes) = option_and_then (λ m. number_after base m bytes) (next_number base n byte)

-- the number of one digit or more, of which the first is no zero where others follow
abbrev pub number_of : ℕ → List ℕ → Option ℕ
number_of base [] = None
number_of base (byte ∷ []) = number_after base 0 (byte ∷ [])
number_of base (byte ∷ next ∷ bytes) = if byte == 48 then None else number_after base 0 (byte ∷ next ∷ bytes)

-- the two digits of a value below 2^8
abbrev pub two : ℕ → List ℕ
two value = digit_glyph false (value / 16) ∷ digit_glyph false (value % 16) ∷ []

-- the four digits of a value below 2^16
abbrev pub four : ℕ → List ℕ
four value = two (value / 256) ++ two (value % 256)
