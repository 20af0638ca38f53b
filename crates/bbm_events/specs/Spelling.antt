-- How a line is cut into fields, and how a number is spelled.
-- Source: project's own choice.
use Rattle.std.specs.Prelude.{ℕ, ◌^◌, List, [], ◌∷◌, ◌++◌, drop, Bool, true, false, not, ◌&&◌, nat_lt, ◌==◌}
use Rattle.std.specs.Prelude.{if◌then◌else◌, Option, Some, None}
use Rattle.std.specs.Prelude.{codes, decimal, bytes_eq}
use Rattle.std.specs.List.{slice_split, join_with_byte}
use Rattle.std.specs.Fmt.{digits}
use Rattle.std.specs.Str.Parse.{digits_value}

-- The fields of a line are the pieces between its single spaces, byte 32. Two spaces in a row, or a
-- space at an end, make an empty field, and a line of no bytes is one empty field.
abbrev pub fields : List ℕ → List (List ℕ)
fields line = slice_split (λ byte. byte == 32) line

-- the line that has these fields
abbrev pub joined : List (List ℕ) → List ℕ
joined pieces = join_with_byte 32 pieces

-- A text that can stand as a line: no byte is a newline, byte 10.
abbrev pub is_plain : List ℕ → Bool
is_plain [] = true
is_plain (byte ∷ bytes) = not (byte == 10) && is_plain bytes

-- The one hex spelling of a number: `0x`, and lower-case digits without leading zeros. The one decimal
-- spelling is `decimal`.
abbrev pub hex : ℕ → List ℕ
hex n = codes "0x" ++ digits 16 false n

-- the number, where it is below 2 ^ 64 and the text is its one spelling
abbrev pub where_spelled : (ℕ → List ℕ) → List ℕ → ℕ → Option ℕ
where_spelled spelling text n = if nat_lt n (2 ^ 64) && bytes_eq (spelling n) text then Some n else None

-- The number whose decimal spelling this is. Its digits, read from the left, tell which number that
-- can be.
unfoldable pub decimal_value : List ℕ → Option ℕ
decimal_value text = where_spelled decimal text (digits_value 10 text)

-- the number whose hex spelling this is
unfoldable pub hex_value : List ℕ → Option ℕ
hex_value text = where_spelled hex text (digits_value 16 (drop 2 text))
