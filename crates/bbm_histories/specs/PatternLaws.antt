-- What the laws of publications, answers and patterns state. A history is newest first. Source: project's own choice.
use Rattle.std.specs.Prelude.{◌≡◌, ℕ, ◌<◌, Bool, true, List, ◌∷◌, ◌++◌}
use Rattle.bbm_tlbi_scope.specs.declared.entry.Cover.{Cover}
use Rattle.bbm_events.specs.declared.claim.Claim.{Claim}
use Rattle.bbm_rules.specs.Prelude.{Event, Heading}
use Rattle.bbm_rules.specs.Claims.{Trust}
use Rattle.bbm_rules.specs.Claims.Trust.{Listed, Patterns}
use Rattle.bbm_rules.specs.Cleansing.{cleansed, half, seen}
use Rattle.bbm_rules.specs.Notes.{Noted, event_of}
use Rattle.bbm_rules.specs.PatternSentences.{Cleansed, Flush, HalfBy, Publication}
use Rattle.bbm_rules.specs.Reach.{Issued, reaches}
use Rattle.bbm_rules.specs.Values.{published}
use Rattle.bbm_histories.specs.ClaimSteps.{cleansed_listed, cleansed_under, half_by, half_by_after, seen_by}
use Rattle.bbm_histories.specs.ClaimSteps.{seen_by_after}
use Rattle.bbm_histories.specs.HistorySteps.{cleansed_after, half_after, seen_after, waits, waits_after}
use Rattle.bbm_histories.specs.PatternSteps.{LastStays}

-- While no event ends the last valid write of a place, it stays, and so does each pattern after it, with the positions
-- of its events.
pub record PatternsStay (heading : Heading) (trust : Trust) : Type 0 where
  pub last : LastStays
  pub publication : (place p : ℕ) (newer since : List Noted) (b : Noted) → Publication heading place p since b
      → Publication heading place p (newer ++ since) b
  pub half : (place p : ℕ) (newer since : List Noted) (b : Noted) (t : Issued Noted) (d : Noted)
      → HalfBy heading place p since b t d → HalfBy heading place p (newer ++ since) b t d
  pub cleansed : (place p : ℕ) (newer since : List Noted) → Cleansed heading trust place p since
      → Cleansed heading trust place p (newer ++ since)

-- What is seen, half and cleansed after an event, and which TLBIs wait for their answers, by the event and by what was
-- so before it.
pub record PatternsAfter (heading : Heading) : Type 0 where
  pub waits : (q : ℕ) (b : Bool) (test : Issued Noted → Bool) (n : Noted) (since : List Noted)
      → waits event_of q b test (n ∷ since) ≡ waits_after event_of q b test n.event n since
  pub seen : (place p : ℕ) (n : Noted) (since : List Noted) → seen heading place p (n ∷ since)
      ≡ seen_after heading place p n.event since
  pub half : (place p : ℕ) (n : Noted) (since : List Noted) → half heading place p (n ∷ since)
      ≡ half_after heading place p n.event since
  pub cleansed : (place p : ℕ) (n : Noted) (since : List Noted)
      → cleansed heading Patterns place p (n ∷ since) ≡ cleansed_after heading place p n.event since

-- What is cleansed after an event under every trust, by what waits for its answer. Under a list of claims a DSB
-- cleanses a place exactly where it completes a claim of the list that ends at its position; for that it is enough to
-- know of each claim what is published, half and waiting by the events at the positions that it names, and these have
-- step equations too.
pub record ClaimsAfter (heading : Heading) (trust : Trust) : Type 0 where
  pub listed : (cs : List Claim) (place p : ℕ) (n : Noted) (since : List Noted)
      → cleansed heading (Listed cs) place p (n ∷ since) ≡ cleansed_listed heading place p cs n.position n.event since
  pub cleansed : (place p : ℕ) (n : Noted) (since : List Noted)
      → cleansed heading trust place p (n ∷ since) ≡ cleansed_under heading place p trust n.position n.event since
  pub seen : (place p b : ℕ) (n : Noted) (since : List Noted) → seen_by heading place p b (n ∷ since)
      ≡ seen_by_after heading place p b n.position n.event since
  pub half : (place p b t d : ℕ) (n : Noted) (since : List Noted)
      → half_by heading place p b t d (n ∷ since) ≡ half_by_after heading place p b t d n.position n.event since

-- Under `cnp` all PEs are alike: what is published to one is published to each, by the same DSB; a TLBI that reaches
-- one reaches each; so a place is seen and half at all PEs, by the same events, and what flushes it at one flushes it
-- at each.
pub record AlikeUnderCnp (heading : Heading) : Type 0 where
  pub published : (q p r : ℕ) (later : List Event) → heading.cnp ≡ true → r < heading.pes
      → published heading q p later ≡ true → published heading q r later ≡ true
  pub publication : (place p r : ℕ) (since : List Noted) (b : Noted) → heading.cnp ≡ true → r < heading.pes
      → Publication heading place p since b → Publication heading place r since b
  pub reached : (e : Event) (p r : ℕ) → heading.cnp ≡ true → reaches heading e p ≡ reaches heading e r
  pub seen : (place p r : ℕ) (since : List Noted) → heading.cnp ≡ true → p < heading.pes → r < heading.pes
      → seen heading place p since ≡ seen heading place r since
  pub half_test : (place p r : ℕ) (since : List Noted) → heading.cnp ≡ true → p < heading.pes → r < heading.pes
      → half heading place p since ≡ half heading place r since
  pub half : (place p r : ℕ) (since : List Noted) (b : Noted) (t : Issued Noted) (d : Noted) → heading.cnp ≡ true
      → r < heading.pes → HalfBy heading place p since b t d → HalfBy heading place r since b t d
  pub flush : (cover : Cover) (place p r : ℕ) (since : List Noted) (t : Issued Noted) (d : Noted) → heading.cnp ≡ true
      → Flush heading cover place p since t d → Flush heading cover place r since t d
