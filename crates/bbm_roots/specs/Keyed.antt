-- Maps by numbers. Source: project's own choice.
use Rattle.std.specs.Prelude.{◌≡◌, ℕ, false, nat_eq}
use Rattle.indexmap.specs.IndexMap.{IndexMap, get}

-- what stands under other keys stays
abbrev pub OthersStay : {V S : Type 0} → ℕ → IndexMap ℕ V S → IndexMap ℕ V S → Type 0
OthersStay key old new = (q : ℕ) → nat_eq key q ≡ false → get nat_eq new q ≡ get nat_eq old q
