-- The elements of a list. Source: project's own choice.
use Rattle.std.specs.Prelude.{◌≡◌, ◌⊎◌, List, [], ◌∷◌}

-- an element of a list: it is the first, or one of the rest
abbrev pub In : {X : Type 0} → List X → X → Type 0
In [] x = ⊥
In (y ∷ ys) x = (y ≡ x) ⊎ In ys x
