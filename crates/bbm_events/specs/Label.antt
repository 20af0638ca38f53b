-- Labels of event lines: where in the source of the logged program an event comes from.
-- Source: project's own choice.
use Rattle.std.specs.Prelude.{ℕ, List, ◌++◌, Bool, ◌&&◌, ◌||◌, ◌==◌, nat_le, length, drop}
use Rattle.std.specs.List.{list_all}
use Rattle.std.proofs.Math.ListN.{replicate}

-- a lower-case or upper-case letter, a digit, or one of `.` `/` `:` `_` `-`
abbrev pub is_label_byte : ℕ → Bool
is_label_byte byte =
    (nat_le 97 byte && nat_le byte 122) || (nat_le 65 byte && nat_le byte 90) || (nat_le 48 byte && nat_le byte 57)
    || byte == 46 || byte == 47 || byte == 58 || byte == 95 || byte == 45

-- 1 to 32 such bytes
abbrev pub is_label : List ℕ → Bool
is_label text = nat_le 1 (length text) && nat_le (length text) 32 && list_all is_label_byte text

-- the 32 bytes in which a label is kept
abbrev pub padded : List ℕ → List ℕ
padded text = text ++ drop (length text) (replicate 32 0)
