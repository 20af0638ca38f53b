-- Worked cases: the order of the claims of one event.
use Rattle.bbm_certify.proofs.Common.{Ascending, claim_key, less}
use Rattle.bbm_rules.proofs.Common.{Place, Two, Taken, El2Tag, Vmid, Asid, Ttbr1Tag}
use Rattle.std.specs.Prelude.{◌≡◌, true, false, [], ◌∷◌, refl}

-- Two places and then their PEs, whatever the form, and behind them the tags.
pub places_first : Ascending (
    Place 0 0x40000008 6 7 8
    ∷ Two 1 0x40000008 2 3 4 7 8
    ∷ Place 0 0x40000010 6 7 8
    ∷ Taken 0 El2Tag 7 8
    ∷ Taken 1 (Vmid 3) 7 8
    ∷ Taken 0 (Vmid 4) 7 8
    ∷ Taken 0 (Asid 1) 7 8
    ∷ Taken 0 Ttbr1Tag 7 8
    ∷ [])
places_first = (refl, (refl, (refl, (refl, (refl, (refl, (refl, tt)))))))

-- A claim comes before no claim of the same place and PE.
pub one_a_place : less (claim_key (Place 0 0x40000008 2 3 4)) (claim_key (Place 0 0x40000008 6 7 8)) ≡ false
one_a_place = refl

-- The earlier publication comes first, and then the earlier TLBI.
pub earliest : less (2 ∷ 9 ∷ 10 ∷ []) (6 ∷ 7 ∷ 8 ∷ []) ≡ true
earliest = refl

pub earliest_flush : less (6 ∷ 7 ∷ 10 ∷ []) (6 ∷ 9 ∷ 10 ∷ []) ≡ true
earliest_flush = refl
