-- The steps of the loops that make the run of a plan, and how its parts join.
use Rattle.bbm_counterrun.proofs.Common.{append-nil, append_assoc, Step, Machine, Read, drops, extends}
use Rattle.bbm_rules.proofs.Common.{◌≡◌, ℕ, suc, ◌+◌, ◌-◌, ◌<◌, min, arith, List, [], ◌∷◌, ◌++◌, length, take, drop}
use Rattle.bbm_rules.proofs.Common.{add-one, ◌∙◌, get_or, length-drop, take_all, Drop, Extend}
use Rattle.std.proofs.lemmas.List.{drop_min}
use Rattle.bbm_counterrun.proofs.WalkCode.{next_item}

-- what stands behind the first so many
pub behind_first : {X : Type 0} (n : ℕ) (xs : List X) → take (length xs - min n (length xs)) (drop (min n (length xs)) xs) ≡ drop n xs
behind_first n xs =
    take_all (length xs - min n (length xs)) (drop (min n (length xs)) xs) (omega (arith, length-drop (min n (length xs)) xs)) ∙ drop_min n xs

pub extend_next : (entry : ℕ) (reads : List Read) (i : ℕ) (r : Read) (step : Step) (steps now end : List Step) → i < length reads
    → r ≡ get_or reads i r → step ≡ Machine (Extend entry r.place r.value) → steps ++ extends entry (drop i reads) ≡ end
    → now ≡ steps ++ step ∷ [] → now ++ extends (entry + 1) (drop (i + 1) reads) ≡ end
extend_next entry reads i r step steps now end within at is was made =
    rw (
      made,
      is,
      add-one entry,
      append_assoc steps (Machine (Extend entry r.place r.value) ∷ []) (extends (suc entry) (drop (i + 1) reads)),
    ) (rw (next_item reads i r within at) at was)

pub ruleset extend_steps = (append-nil)

pub drops_more : (steps end : List Step) (n made : ℕ) → n < made → steps ++ drops n (made - n) ≡ end
    → (steps ++ Machine (Drop n) ∷ []) ++ drops (n + 1) (made - (n + 1)) ≡ end
drops_more steps end n made less was =
    let left : made - n ≡ suc (made - (n + 1)) = omega (arith, less) in
    append_assoc steps (Machine (Drop n) ∷ []) _ ∙ rw (left, ← add-one n) at was

pub ruleset drop_steps = (drops_more, append-nil)

pub ruleset joining = (append_assoc)
