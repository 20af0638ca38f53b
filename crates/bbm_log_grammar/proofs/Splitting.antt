-- The first field of a line ends at its first space.
use Rattle.bbm_log_grammar.proofs.Common.{◌≡◌, ℕ, ◌+◌, ◌-◌, ◌<◌, ◌≤◌, length-drop, List, [], ◌∷◌, Bool, true, false}
use Rattle.bbm_log_grammar.proofs.Common.{cond, length, take, drop, ◌==◌, nat_lt, refl, ap, sym, ◌∙◌, Some, None, arith}
use Rattle.bbm_log_grammar.proofs.Common.{ltb-true, ltb-false, take_all, fields}
use Rattle.std.specs.List.{position, position_or_len}
use Rattle.std.proofs.lemmas.List.Splits.{slice_split_first, slice_split_none}
use Rattle.std.proofs.lemmas.List.Sums.{fails_before_first}

abbrev pub is_space : ℕ → Bool
is_space byte = byte == 32

some_position : (line : List ℕ) {end : ℕ} → position is_space line ≡ Some end → (position_or_len is_space line ≡ end) × (end < length line)
some_position line {end = end} e = by (nat_lt (position_or_len is_space line) (length line)) refl e
  where
    by : (t : Bool) → nat_lt (position_or_len is_space line) (length line) ≡ t → cond t (Some (position_or_len is_space line)) None ≡ Some end → (position_or_len is_space line ≡ end) × (end < length line)
    by true is f = let same : position_or_len is_space line ≡ end = cc in let below = ltb-true (position_or_len is_space line) (length line) is in (same, omega (arith, same, below))
    by false is f = cc

no_position : (line : List ℕ) → position is_space line ≡ None → length line ≤ position_or_len is_space line
no_position line e = by (nat_lt (position_or_len is_space line) (length line)) refl e
  where
    by : (t : Bool) → nat_lt (position_or_len is_space line) (length line) ≡ t → cond t (Some (position_or_len is_space line)) None ≡ None → length line ≤ position_or_len is_space line
    by true is f = cc
    by false is f = ltb-false (position_or_len is_space line) (length line) is

-- a line with a space: its first field, and the fields of what follows the space, in the form of slices
pub fields_first : (line : List ℕ) (end : ℕ) → position is_space line ≡ Some end
    → fields line ≡ take end line ∷ fields (take (length line - (end + 1)) (drop (end + 1) line))
fields_first line end e =
    let found = some_position line e in
    let below : position_or_len is_space line < length line = omega (arith, found.0, found.1) in
    let all : take (length line - (end + 1)) (drop (end + 1) line) ≡ drop (end + 1) line = take_all (length line - (end + 1)) (drop (end + 1) line) (omega (arith, length-drop (end + 1) line)) in
    slice_split_first is_space line 0 below ∙ ap (λ (n : ℕ). take n line ∷ fields (drop (n + 1) line)) found.0 ∙ ap (λ (rest : List ℕ). take end line ∷ fields rest) (sym all)

-- a line with no space is its one field
pub fields_only : (line : List ℕ) → position is_space line ≡ None → fields line ≡ line ∷ []
fields_only line e = slice_split_none is_space line (λ k d below. let far = no_position line e in fails_before_first is_space line k d (omega arith))

pub ruleset splitting = (fields_first, fields_only)
