-- What cores map.
use Rattle.bbm_unmapped.proofs.Common.{core_maps, maps, maps_as, same_kind, span_of}
use Rattle.bbm_rules.proofs.Common.{◌≡◌, ℕ, ◌+◌, Bool, true, false, ◌&&◌, refl, sym, Kind, S2, Desc, Invalid, Table}
use Rattle.bbm_rules.proofs.Common.{Leaf, core_in, core_of, desc_of, and-false, nat_le, nat_lt}

three : (a b c : Bool) → (a && b && c) ≡ (a && (b && c))
three true b c = refl
three false b c = refl

-- the core of a value maps the pages that the value does
pub maps_of_core : (kind : Kind) (level value page : ℕ) → core_maps kind level (core_of kind level value) page ≡ maps
    kind level value page
maps_of_core kind level value page = by (desc_of kind level value)
  where
    by : (d : Desc) → core_maps kind level (core_in d) page ≡ (same_kind kind S2 && maps_as level d page)
    by Invalid = sym (and-false (same_kind kind S2))
    by (Table next ns) = sym (and-false (same_kind kind S2))
    by (Leaf out attrs share global contiguous) = three (same_kind kind S2) (nat_le out page) (nat_lt page (out +
        span_of level))
