-- What an event is to one place. Source: project's own choice.
use Rattle.std.specs.Prelude.{◌≡◌, ℕ, Bool, true, false, ◌&&◌, ◌==◌, nat_eq}
use Rattle.bbm_barriers.specs.declared.Dsb.{Dsb as Barrier}
use Rattle.bbm_entry_state.specs.EntryCalls.{Published}
use Rattle.bbm_entry_state.specs.Points.{is_broken, waits}
use Rattle.bbm_entry_state.specs.declared.pending.Pends.{Pends}
use Rattle.bbm_entry_state.specs.declared.state.EntryState.{EntryState}
use Rattle.bbm_tlbi_scope.specs.declared.entry.Cover.{Cover}
use Rattle.bbm_rules.specs.Prelude.{Heading, Event, Init, Write, Dsb, Tlbi}
use Rattle.bbm_rules.specs.Places.{page_of}
use Rattle.bbm_barriers.specs.Options.{is_non}

-- Whether the event may change the state of the place, or what waits there: it is a write of the place, an init of its
-- page, a DSB or a TLBI.
abbrev pub touches : ℕ → Event → Bool
touches place (Write pe at value) = at == place
touches place (Init pe page) = page == page_of place
touches place (Dsb pe dsb) = true
touches place (Tlbi pe op xt) = true
touches place _ = false

-- The state after a DSB of q published: that of the call, or the old one where the header has `cnp` and the DSB is of
-- the non-shareable domain, so that it publishes nothing.
pub record Heard (heading : Heading) (old : EntryState) (q : ℕ) (dsb : Barrier) (mid : EntryState) : Type 0 where
  pub published : (heading.cnp && is_non dsb.domain) ≡ false → Published old q dsb heading.pes mid
  pub unheard : (heading.cnp && is_non dsb.domain) ≡ true → mid ≡ old

-- what waits for each issuer but one is as it was
abbrev pub OthersWait : ℕ → (ℕ → Pends) → (ℕ → Pends) → Type 0
OthersWait issuer old new = (q : ℕ) → nat_eq q issuer ≡ false
    → (b : Bool) (c : Cover) (p : ℕ) → waits (new q) b c p ≡ waits (old q) b c p

-- the same, where the place is broken in this state; and else nothing waits for them
abbrev pub OthersStay : EntryState → ℕ → (ℕ → Pends) → (ℕ → Pends) → Type 0
OthersStay state issuer old new = (q : ℕ) → nat_eq q issuer ≡ false
    → (b : Bool) (c : Cover) (p : ℕ) → waits (new q) b c p ≡ (is_broken state && waits (old q) b c p)
