-- Places that a TLBI covers, each as far as stands beside it.
-- Source: project's own choice.
use Rattle.std.specs.Prelude.{◌≡◌, ℕ, Bool, false, List, [], ◌∷◌, All, nat_eq, ◌||◌, if◌then◌else◌}
use Rattle.bbm_tlbi_scope.specs.declared.entry.Cover.{Cover}
use Rattle.bbm_tlbi_scope.specs.declared.entry.Cover.TheVariants.{None as NoCover}
use Rattle.bbm_place_map.specs.declared.found.Found.{Found}

-- whether a place is among them
abbrev pub is_found : List Found → ℕ → Bool
is_found [] a = false
is_found (x ∷ xs) a = nat_eq x.place a || is_found xs a

-- each is covered as far as the function says of its place
abbrev pub FoundAs : List Found → (ℕ → Cover) → Type 0
FoundAs found f = All (λ (x : Found). x.cover ≡ f x.place) found

-- how far a place is covered by the first item of it
abbrev pub cover_in : List Found → ℕ → Cover
cover_in [] a = NoCover
cover_in (x ∷ xs) a = if nat_eq x.place a then x.cover else cover_in xs a
