-- What is left of a line, and what a line is continued by.
use Rattle.std.specs.Prelude.{ℕ, List, [], ◌∷◌, ◌++◌, Option, Some, None}
use Rattle.bbm_events.specs.Spelling.{fields}

-- the fields that are left, where these bytes or none are left
abbrev pub fields_left : Option (List ℕ) → List (List ℕ)
fields_left None = []
fields_left (Some line) = fields line

-- fields that follow others, each with the space before it
abbrev pub spaced : List (List ℕ) → List ℕ
spaced [] = []
spaced (text ∷ rest) = 32 ∷ (text ++ spaced rest)
