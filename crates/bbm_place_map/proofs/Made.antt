-- What a call makes of its arguments.
use Rattle.bbm_place_map.proofs.Common.{ℕ, Bool, Dsb, PeMask, Barrier, Effect, Issuing}

abbrev pub barrier : ℕ → Dsb → ℕ → Effect → Barrier
barrier issuer dsb n effect = record { issuer = issuer; dsb = dsb; n = n; effect = effect }

abbrev pub issuing : ℕ → PeMask → Bool → Issuing
issuing issuer reach broadcast = record { issuer = issuer; reach = reach; broadcast = broadcast }
