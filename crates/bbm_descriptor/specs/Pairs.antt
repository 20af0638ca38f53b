-- Memory that is told by pairs of a place and its value.
-- Source: project's own choice.
use Rattle.std.specs.Prelude.{ℕ, ◌==◌, List, [], ◌∷◌, if◌then◌else◌}

-- the value of the first pair of the place, 0 where there is none
abbrev pub value_among : List (ℕ × ℕ) → ℕ → ℕ
value_among [] place = 0
value_among (pair ∷ pairs) place = if pair.0 == place then pair.1 else value_among pairs place
