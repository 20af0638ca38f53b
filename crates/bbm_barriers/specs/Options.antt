-- What a DSB publishes and completes, for each of the twelve options.
use Rattle.std.specs.Prelude.{ℕ, Bool, true, false, nat_eq, nat_lt}
use Rattle.bbm_barriers.specs.declared.Dsb.{Dsb}
use Rattle.bbm_barriers.specs.declared.Domain.{Domain}
use Rattle.bbm_barriers.specs.declared.Domain.TheVariants.{Full, Inner, Outer, Non}
use Rattle.bbm_barriers.specs.declared.Types.{Types}
use Rattle.bbm_barriers.specs.declared.Types.TheVariants.{All, Stores, Loads}

-- the PEs to which a DSB publishes its issuer's earlier writes
pub data Audience : Type 0 where
  EveryPe : Audience
  IssuerAlone : Audience
  NoPe : Audience

-- the earlier TLBIs of its issuer that a DSB completes
pub data Completed : Type 0 where
  EveryTlbi : Completed
  LocalTlbis : Completed
  NoTlbi : Completed

-- The table of the twelve options. All PEs are in one inner shareable domain, which is the project's own
-- choice; so the full system, the inner and the outer shareable domain are one domain here. A barrier
-- for loads alone waits for no store, and only a barrier for loads and stores completes a TLBI.
-- Source: Arm ARM (DDI 0487), "Memory barriers", and "TLB maintenance instructions", "Ordering and
-- completion of TLB maintenance instructions".
abbrev pub audience : Domain → Types → Audience
audience Full All = EveryPe  -- sy
audience Inner All = EveryPe  -- ish
audience Outer All = EveryPe  -- osh
audience Non All = IssuerAlone  -- nsh
audience Full Stores = EveryPe  -- st
audience Inner Stores = EveryPe  -- ishst
audience Outer Stores = EveryPe  -- oshst
audience Non Stores = IssuerAlone  -- nshst
audience Full Loads = NoPe  -- ld
audience Inner Loads = NoPe  -- ishld
audience Outer Loads = NoPe  -- oshld
audience Non Loads = NoPe  -- nshld

abbrev pub completed : Domain → Types → Completed
completed Full All = EveryTlbi  -- sy
completed Inner All = EveryTlbi  -- ish
completed Outer All = EveryTlbi  -- osh
completed Non All = LocalTlbis  -- nsh
completed Full Stores = NoTlbi  -- st
completed Inner Stores = NoTlbi  -- ishst
completed Outer Stores = NoTlbi  -- oshst
completed Non Stores = NoTlbi  -- nshst
completed Full Loads = NoTlbi  -- ld
completed Inner Loads = NoTlbi  -- ishld
completed Outer Loads = NoTlbi  -- oshld
completed Non Loads = NoTlbi  -- nshld

-- whether a domain is the non-shareable one
abbrev pub is_non : Domain → Bool
is_non Non = true
is_non _ = false

-- whether an audience takes in the PE p, of a log with n PEs
abbrev pub hears : Audience → ℕ → ℕ → ℕ → Bool
hears EveryPe issuer n p = nat_lt p n
hears IssuerAlone issuer n p = nat_eq p issuer
hears NoPe issuer n p = false

-- whether a DSB of the issuer, in a log with n PEs, publishes the issuer's earlier writes to the PE p
abbrev pub publishes : Dsb → ℕ → ℕ → ℕ → Bool
publishes dsb issuer n p = hears (audience dsb.domain dsb.types) issuer n p

-- whether broadcast TLBIs are among the completed ones
abbrev pub has_broadcast : Completed → Bool
has_broadcast EveryTlbi = true
has_broadcast LocalTlbis = false
has_broadcast NoTlbi = false

-- whether TLBIs that aren't broadcast are among the completed ones
abbrev pub has_local : Completed → Bool
has_local EveryTlbi = true
has_local LocalTlbis = true
has_local NoTlbi = false

-- whether a DSB completes its issuer's earlier TLBIs that are broadcast, and those that aren't
abbrev pub answers_broadcast : Dsb → Bool
answers_broadcast dsb = has_broadcast (completed dsb.domain dsb.types)

abbrev pub answers_local : Dsb → Bool
answers_local dsb = has_local (completed dsb.domain dsb.types)

-- the same for a TLBI of which it is told whether it is broadcast
abbrev pub answers : Dsb → Bool → Bool
answers dsb true = answers_broadcast dsb
answers dsb false = answers_local dsb
