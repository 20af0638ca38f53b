-- What reads take from a source, and what writes add to a sink, where these tell their bytes.
use Rattle.std.specs.Prelude.{ℕ, ◌≡◌, ◌<◌, List, [], ◌∷◌, ◌++◌, Bool, true, false, ◌&&◌, not, nat_eq, length}
use Rattle.std.specs.Prelude.{Option, None, Some, Result, Ok, OnErr}

-- What a source had left before these bytes were taken: the bytes, and then what is left now. A source
-- that tells nothing goes on telling nothing.
abbrev pub preceded : List ℕ → Option (List ℕ) → Option (List ℕ)
preceded taken None = None
preceded taken (Some left) = Some (taken ++ left)

-- What a sink holds after these bytes were added: what it held, and then the bytes. A sink that tells
-- nothing goes on telling nothing.
abbrev pub extended : Option (List ℕ) → List ℕ → Option (List ℕ)
extended None added = None
extended (Some held) added = Some (held ++ added)

-- nothing is left, where the source tells it
abbrev pub AtEnd : Option (List ℕ) → Type 0
AtEnd None = Unit {0}
AtEnd (Some left) = left ≡ []

-- these bytes are all that is left, where the source tells it
abbrev pub IsAllOf : List ℕ → Option (List ℕ) → Type 0
IsAllOf bytes None = Unit {0}
IsAllOf bytes (Some left) = left ≡ bytes

-- A call answers whether it has more at hand than before, where the last two are what it had then and has now; where it
-- fails it has what it had.
pub record TellsMore {E : Type 0} (result : Result Bool E) (old new : List ℕ) : Type 0 where
  pub some : result ≡ Ok true → length old < length new
  pub none : result ≡ Ok false → new ≡ old
  pub unread : OnErr result (new ≡ old)

-- whether no byte is a newline, which is 10
abbrev pub plain : List ℕ → Bool
plain [] = true
plain (b ∷ bs) = not (nat_eq b 10) && plain bs
