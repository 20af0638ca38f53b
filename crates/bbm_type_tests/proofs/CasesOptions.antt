-- Worked cases: the twelve options of a DSB.
use Rattle.bbm_type_tests.proofs.Common.{Bool, List, [], ◌∷◌, true, false, map, refl, Dsb, Inner, Non, All, Stores}
use Rattle.bbm_barriers.specs.declared.Domain.{Domain}
use Rattle.bbm_barriers.specs.declared.Domain.TheVariants.{Full, Outer}
use Rattle.bbm_barriers.specs.declared.Types.{Types}
use Rattle.bbm_barriers.specs.declared.Types.TheVariants.{Loads}
use Rattle.bbm_barriers.specs.Options.{publishes, answers}
use Rattle.bbm_type_tests.proofs.Rows.{Gives2}

-- Which of the PEs 0 to 3 hear of the writes of PE 1, in a log with three PEs; and whether broadcast and local TLBIs
-- are complete.
abbrev option : Domain → Types → List Bool × Bool × Bool
option domain types =
    let dsb : Dsb = record { domain = domain; types = types } in
    (map (publishes dsb 1 3) (0 ∷ 1 ∷ 2 ∷ 3 ∷ []), answers dsb true, answers dsb false)

abbrev everyone : List Bool
everyone = true ∷ true ∷ true ∷ false ∷ []

abbrev issuer : List Bool
issuer = false ∷ true ∷ false ∷ false ∷ []

abbrev nobody : List Bool
nobody = false ∷ false ∷ false ∷ false ∷ []

pub options : Gives2 option (
    (Full, All, (everyone, true, true))
    ∷ (Inner, All, (everyone, true, true))
    ∷ (Outer, All, (everyone, true, true))
    ∷ (Non, All, (issuer, false, true))
    ∷ (Full, Stores, (everyone, false, false))
    ∷ (Inner, Stores, (everyone, false, false))
    ∷ (Outer, Stores, (everyone, false, false))
    ∷ (Non, Stores, (issuer, false, false))
    ∷ (Full, Loads, (nobody, false, false))
    ∷ (Inner, Loads, (nobody, false, false))
    ∷ (Outer, Loads, (nobody, false, false))
    ∷ (Non, Loads, (nobody, false, false))
    ∷ [])
options = refl
