-- What is kept of the claims that are true of a log so far, and what the next event adds to it. No public contract
-- cites
-- these words. Source: project's own choice.
use Rattle.std.specs.Prelude.{◌≡◌, ℕ, suc, length, Bool, true, false, ◌&&◌, ◌==◌, nat_lt, List}
use Rattle.bbm_events.specs.declared.claim.Claim.{Claim}
use Rattle.bbm_regimes.specs.PeMask.{pe_in}
use Rattle.bbm_rules.specs.Lists.{any}
use Rattle.bbm_rules.specs.Notes.{Noted}
use Rattle.bbm_rules.specs.Prelude.{Heading, Event, Dsb}
use Rattle.bbm_claims.specs.Marks.{completed_mark, end_of, is_of, is_true_of}
use Rattle.bbm_claims.specs.declared.cleansings.Cleansing.{Cleansing}

-- whether it is of this place and PE, and of a write that comes after the first n events
abbrev pub counts : ℕ → ℕ → ℕ → Cleansing → Bool
counts place p n c = (c.place == place && nat_lt n c.since) && pe_in c.pes p

-- whether some of them is
abbrev pub tells : List Cleansing → ℕ → ℕ → ℕ → Bool
tells cs place p n = any (counts place p n) cs

-- they tell of these notes what the claims that are true do
abbrev pub Tell : Heading → List Claim → List Noted → List Cleansing → Type 0
Tell heading claims h cs = (place p n : ℕ) → tells cs place p n ≡ any (is_true_of heading place p n h) claims

-- whether the claim ends with this event, which comes behind the notes, and is true of the events after the first n
abbrev pub ends_now : Heading → Event → List Noted → ℕ → ℕ → ℕ → Claim → Bool
ends_now heading e h place p n claim =
    end_of claim == suc (length h) && (is_of place p claim && nat_lt n (completed_mark heading claim e h))

-- whether the event is a DSB
abbrev pub is_barrier : Event → Bool
is_barrier (Dsb pe dsb) = true
is_barrier _ = false
