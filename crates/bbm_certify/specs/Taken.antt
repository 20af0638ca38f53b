-- The claims of tags that are due at an event. No public contract cites these words. Source: project's own choice.
use Rattle.std.specs.Prelude.{◌≡◌, ◌⊎◌, ℕ, suc, ◌<◌, Bool, true, false, not, ◌&&◌, nat_lt, List, ◌∷◌, length}
use Rattle.bbm_events.specs.declared.claim.Claim.{Claim}
use Rattle.bbm_events.specs.declared.claim.Claim.TheVariants.{Taken}
use Rattle.bbm_rules.specs.Claims.Trust.{Patterns}
use Rattle.bbm_rules.specs.Lists.{any}
use Rattle.bbm_rules.specs.Prelude.{Barrier, Heading, Event, Dsb, Msr, Reg, Tag}
use Rattle.bbm_rules.specs.Sentences.{completes_for, issues}
use Rattle.bbm_rules.specs.Tags.{kept_at, reads, reads_for_some}
use Rattle.bbm_histories.specs.ClaimSteps.{tag_waits_at}
use Rattle.bbm_histories.specs.HistorySteps.{answered_by}
use Rattle.bbm_claims.specs.Holdings.{has}
use Rattle.bbm_oracle_tags.specs.declared.holding.Holding.{Holding}
use Rattle.bbm_lemmas.specs.Elements.{In}

-- a TLBI of q, behind which these events came, and none of them a DSB of q that completes it
abbrev pub is_open : ℕ → Event → List Event → Bool
is_open q e later = issues q e && not (any (completes_for q e) later)

module _ (heading : Heading) where
  -- the DSB, which comes behind h, answers the TLBI at position t, and that takes the tag away at p, where the tag isn't
  -- readable after the DSB
  abbrev pub takes : ℕ → Tag → ℕ → Barrier → List Event → ℕ → Bool
  takes p tag q dsb h t = answered_by dsb (λ b. tag_waits_at heading p tag t q b h)

  -- the first such position, 0 where there is none
  abbrev pub IsFirstTaking : ℕ → Tag → ℕ → Barrier → List Event → ℕ → Type 0
  IsFirstTaking p tag q dsb h t = (t ≡ 0 → (n : ℕ) → takes p tag q dsb h n ≡ false)
      × (0 < t → (takes p tag q dsb h t ≡ true) × ((n : ℕ) → n < t → takes p tag q dsb h n ≡ false))

  -- the tag is kept for the page at p after h, a PE of the header, and isn't readable there after `now`
  abbrev pub may_lose : List Event → List Event → Holding → Bool
  may_lose h now x = (nat_lt x.pe heading.pes && not (reads_for_some heading now x.pe x.tag))
      && kept_at heading Patterns x.pe x.root x.tag h

  -- the claim that the event, which comes behind h, takes the tag away
  abbrev pub IsTaken : List Event → Event → Holding → Claim → Type 0
  IsTaken h (Dsb q dsb) x c = (t : ℕ) × (0 < t) × IsFirstTaking x.pe x.tag q dsb h t
      × (may_lose h (Dsb q dsb ∷ h) x ≡ true) × (c ≡ Taken x.pe x.tag t (suc (length h)))
  IsTaken h e x c = ⊥

  -- of one of these
  abbrev pub AreTaken : List Event → Event → List Holding → Claim → Type 0
  AreTaken h e known c = (x : Holding) × In known x × IsTaken h e x c

  -- they have all that is kept
  abbrev pub IsKnown : List Event → List Holding → Type 0
  IsKnown h known = (p root : ℕ) (tag : Tag) → p < heading.pes → kept_at heading Patterns p root tag h ≡ true
      → has known p root tag ≡ true

  -- what is readable at p after the event was so before it, and then it is kept, or the event is a register write of p
  abbrev pub ReadsAreWritten : List Event → Event → Type 0
  ReadsAreWritten h e = (p root : ℕ) (tag : Tag) → p < heading.pes → reads heading (e ∷ h) p tag root ≡ true
      → (kept_at heading Patterns p root tag h ≡ true) ⊎ ((reg : Reg) × (value : ℕ) × (e ≡ Msr p reg value))
