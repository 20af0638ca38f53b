-- The claims of places that are due at an event. No public contract cites these words. Source: project's own choice.
use Rattle.std.specs.Prelude.{◌≡◌, ℕ, suc, ◌<◌, false, List, ◌∷◌, Some}
use Rattle.bbm_events.specs.declared.claim.Claim.{Claim}
use Rattle.bbm_rules.specs.Claims.{Trust}
use Rattle.bbm_rules.specs.Claims.Trust.{Patterns}
use Rattle.bbm_rules.specs.Cleansing.{cleansed, seen}
use Rattle.bbm_rules.specs.Held.{ValidWrite, last_valid}
use Rattle.bbm_rules.specs.Notes.{Noted}
use Rattle.bbm_rules.specs.Places.{page_of}
use Rattle.bbm_regimes.specs.PeMask.{pe_in}
use Rattle.bbm_regimes.specs.declared.pe.PeMask.{PeMask}
use Rattle.bbm_rules.specs.Prelude.{Barrier, Heading, Event, Dsb}
use Rattle.bbm_rules.specs.Tree.{Node, node_of}
use Rattle.bbm_lemmas.specs.Elements.{In}
pub use Rattle.bbm_certify.specs.Making.{IsLeastClaim}

-- the place isn't cleansed at p by these events
abbrev pub IsUncleansed : Heading → ℕ → ℕ → List Noted → Type 0
IsUncleansed heading place p since = cleansed heading Patterns place p since ≡ false

-- the PEs are told at which it is cleansed by them
abbrev pub Told : Heading → PeMask → ℕ → ℕ → List Noted → Type 0
Told heading pes place p since = pe_in pes p ≡ cleansed heading Patterns place p since

-- the PEs are told to which a write of it is published by them
abbrev pub ToldSeen : Heading → PeMask → ℕ → ℕ → List Noted → Type 0
ToldSeen heading pes place p since = pe_in pes p ≡ seen heading place p since

-- a DSB that comes behind so many events
abbrev pub IsNewest : Noted → Event → ℕ → Type 0
IsNewest newest e count = (q : ℕ) × (dsb : Barrier) × (e ≡ Dsb q dsb) × (newest.event ≡ Dsb q dsb)
    × (newest.position ≡ suc count)

-- the claim of the place, which the newest event cleanses at p; and at a PE below n
abbrev pub IsDueHere : Heading → ℕ → Noted → List Noted → ℕ → Claim → Type 0
IsDueHere heading place newest since p c = IsUncleansed heading place p since × IsLeastClaim heading place p (newest ∷ since) c

abbrev pub IsDueSince : Heading → ℕ → Noted → List Noted → ℕ → Claim → Type 0
IsDueSince heading place newest since n c = (p : ℕ) × (p < n) × IsUncleansed heading place p since
    × IsLeastClaim heading place p (newest ∷ since) c

-- the same of the place as one of the page, by what came since its last valid write
abbrev pub IsDueIn : Heading → Node → ℕ → Noted → List Noted → Claim → Type 0
IsDueIn heading n place newest h c = (w : ValidWrite) × (last_valid n.kind n.level place h ≡ Some w)
    × IsDueSince heading place newest w.since heading.pes c

-- as one of a tree, after the event
abbrev pub IsDueAt : Heading → Trust → List Noted → Noted → List Noted → ℕ → Claim → Type 0
IsDueAt heading trust after newest h place c = (n : Node) × (node_of heading trust after (page_of place) ≡ Some n)
    × IsDueIn heading n place newest h c

-- of one of these places
abbrev pub AreDue : Heading → Trust → List Noted → Noted → List Noted → List ℕ → Claim → Type 0
AreDue heading trust after newest h places c = (a : ℕ) × In places a × IsDueAt heading trust after newest h a c
