-- What the masks of a broken place and the pendings of each issuer say of the events since its last valid write.
-- Source: project's own choice.
use Rattle.std.specs.Prelude.{◌≡◌, ℕ, ◌<◌, Bool, false, List}
use Rattle.bbm_tlbi_scope.specs.declared.entry.Cover.{Cover}
use Rattle.bbm_tlbi_scope.specs.declared.entry.Cover.TheVariants.{None as NoCover, Half, Second, Full}
use Rattle.bbm_entry_state.specs.Points.{clean_at, half_at, seen_at, waits, writer_at}
use Rattle.bbm_entry_state.specs.declared.pending.Pends.{Pends}
use Rattle.bbm_entry_state.specs.declared.state.EntryState.{EntryState}
use Rattle.bbm_rules.specs.Prelude.{Heading}
use Rattle.bbm_rules.specs.Claims.Trust.{Patterns}
use Rattle.bbm_rules.specs.Cleansing.{cleansed, half, seen}
use Rattle.bbm_rules.specs.Notes.{Noted}
use Rattle.bbm_histories.specs.HistorySteps.{full_waits, half_waits, second_waits, wrote}

module _ (heading : Heading) (place : ℕ) where
  -- whether p waits for the answer of a TLBI of q, broadcast or not as told, that covers the place so far and counts
  abbrev pub cover_waits : ℕ → ℕ → Bool → Cover → List Noted → Bool
  cover_waits p q b NoCover since = false
  cover_waits p q b Half since = half_waits heading place p q b since
  cover_waits p q b Second since = second_waits heading place p q b since
  cover_waits p q b Full since = full_waits heading place p q b since

  -- The masks are the sets of the PEs at which the patterns hold after these events, and the pendings are those of the
  -- TLBIs among them that no DSB has answered. Of half, cleansed and the pendings it is said for the PEs of the header.
  pub record Marked (since : List Noted) (state : EntryState) (pends : ℕ → Pends) : Type 0 where
    pub writers : (p : ℕ) → writer_at state p ≡ wrote heading place p p since
    pub seen : (p : ℕ) → seen_at state p ≡ seen heading place p since
    pub half : (p : ℕ) → p < heading.pes → half_at state p ≡ half heading place p since
    pub clean : (p : ℕ) → p < heading.pes → clean_at state p ≡ cleansed heading Patterns place p since
    pub waiting : (p : ℕ) → p < heading.pes → (q : ℕ) (b : Bool) (c : Cover)
        → waits (pends q) b c p ≡ cover_waits p q b c since
