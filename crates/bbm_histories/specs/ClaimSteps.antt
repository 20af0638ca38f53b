-- Step equations of cleansed, and of the tags that are taken away, under every trust. Under a list of claims they go
-- claim by claim, and keep of each pattern only the positions that a claim names. As in the other step equations,
-- `since` are the events after the last valid write of a place. Source: project's own choice.
use Rattle.std.specs.Prelude.{ℕ, suc, length, Bool, false, ◌&&◌, ◌||◌, ◌==◌, List, if◌then◌else◌}
use Rattle.bbm_barriers.specs.Options.{answers}
use Rattle.bbm_tlbi_scope.specs.declared.entry.Cover.TheVariants.{Half, Second, Full}
use Rattle.bbm_rules.specs.Prelude.{Barrier, Tag, Heading, Event, Dsb, Tlbi}
use Rattle.bbm_events.specs.declared.claim.Claim.{Claim}
use Rattle.bbm_events.specs.declared.claim.Claim.TheVariants.{Place, Two, Taken}
use Rattle.bbm_rules.specs.Claims.{Trust, same_tag}
use Rattle.bbm_rules.specs.Claims.Trust.{Listed}
use Rattle.bbm_rules.specs.Cleansing.{cleansed, flushes, full_step, half_where, second_step, seen_where}
use Rattle.bbm_rules.specs.Lists.{any}
use Rattle.bbm_rules.specs.Notes.{Noted, event_of}
use Rattle.bbm_rules.specs.Reach.{Issued, reaches}
use Rattle.bbm_rules.specs.Tags.{itself, takes_tag}
use Rattle.bbm_rules.specs.Values.{publishes_to}
use Rattle.bbm_histories.specs.HistorySteps.{answered_by, is_tlbi, takes, waits, wrote}

module _ (heading : Heading) (place p : ℕ) where
  -- Cleansed after an event of position d: a DSB answers a TLBI that waits and that makes, with d as the last position,
  -- a pattern that the trust allows.
  abbrev pub cleansed_under : Trust → ℕ → Event → List Noted → Bool
  cleansed_under trust d (Dsb q dsb) since =
      (answered_by dsb (λ k. waits event_of q k (full_step heading trust place p d) since)
      || answered_by dsb (λ k. waits event_of q k (second_step heading trust place p d) since))
      || cleansed heading trust place p since
  cleansed_under trust d _ since = cleansed heading trust place p since

  -- a write of the place is published to p by the DSB at position b
  abbrev pub seen_by : ℕ → List Noted → Bool
  seen_by b since = seen_where heading place p (λ x. b == x) since

  abbrev pub seen_by_after : ℕ → ℕ → Event → List Noted → Bool
  seen_by_after b d (Dsb q dsb) since =
      ((publishes_to heading dsb q p && wrote heading place p q since) && b == d) || seen_by b since
  seen_by_after b d _ since = seen_by b since

  -- the TLBI at position t covers the place half, or in full, after the DSB at b
  abbrev pub half_at : ℕ → ℕ → Issued Noted → Bool
  half_at b t i = flushes heading place p Half (λ before. t == i.tlbi.position && seen_by b before) i

  abbrev pub full_at : ℕ → ℕ → Issued Noted → Bool
  full_at b t i = flushes heading place p Full (λ before. t == i.tlbi.position && seen_by b before) i

  -- the place is half by the events at the positions b, t and d
  abbrev pub half_by : ℕ → ℕ → ℕ → List Noted → Bool
  half_by b t d since = half_where heading place p (λ x y z. d == z && (t == y && b == x)) since

  abbrev pub half_by_after : ℕ → ℕ → ℕ → ℕ → Event → List Noted → Bool
  half_by_after b t d now (Dsb q dsb) since =
      (d == now && answered_by dsb (λ k. waits event_of q k (half_at b t) since)) || half_by b t d since
  half_by_after b t d now _ since = half_by b t d since

  -- the TLBI at position t2 covers the rest of the place, which is half by the events at b, t1 and d1
  abbrev pub second_at : ℕ → ℕ → ℕ → ℕ → Issued Noted → Bool
  second_at b t1 d1 t2 i =
      flushes heading place p Second (λ before. t2 == i.tlbi.position && half_by b t1 d1 before) i

  -- whether the claim is of this place and PE, ends at position d, and the DSB of q there answers the TLBI that it
  -- names
  abbrev pub completes_claim : ℕ → Barrier → ℕ → List Noted → Claim → Bool
  completes_claim q dsb d since (Place r a b t e) =
      (r == p && (a == place && e == d)) && answered_by dsb (λ k. waits event_of q k (full_at b t) since)
  completes_claim q dsb d since (Two r a b t1 d1 t2 e) =
      (r == p && (a == place && e == d)) && answered_by dsb (λ k. waits event_of q k (second_at b t1 d1 t2) since)
  completes_claim q dsb d since _ = false

  -- cleansed after an event of position d under these claims
  abbrev pub cleansed_listed : List Claim → ℕ → Event → List Noted → Bool
  cleansed_listed cs d (Dsb q dsb) since =
      any (completes_claim q dsb d since) cs || cleansed heading (Listed cs) place p since
  cleansed_listed cs d _ since = cleansed heading (Listed cs) place p since

-- ---- one tag at one PE, in a history of events

module _ (heading : Heading) (p : ℕ) (tag : Tag) where
  -- the TLBI at position t reaches p and takes the whole tag, which hasn't been readable at p since its issue
  abbrev pub takes_at : ℕ → List Event → Issued Event → Bool
  takes_at t h i = t == suc (length i.before) && takes heading p tag h i

  -- and q issued it, and it isn't answered yet
  abbrev pub tag_waits_at : ℕ → ℕ → Bool → List Event → Bool
  tag_waits_at t q b h = waits itself q b (takes_at t h) h

  abbrev pub tag_waits_at_after : ℕ → ℕ → Bool → Event → List Event → Bool
  tag_waits_at_after t q b (Tlbi pe op xt) h = (pe == q && (is_tlbi b (Tlbi pe op xt) && (t == suc (length h)
      && (reaches heading (Tlbi pe op xt) p && takes_tag heading (Tlbi pe op xt) h tag)))) || tag_waits_at t q b h
  tag_waits_at_after t q b (Dsb pe dsb) h = if pe == q && answers dsb b then false else tag_waits_at t q b h
  tag_waits_at_after t q b _ h = tag_waits_at t q b h

  -- whether the claim is of this tag and PE, ends at the position after h, and a DSB of q there answers the TLBI that
  -- it names
  abbrev pub completes_taken : ℕ → Barrier → List Event → Claim → Bool
  completes_taken q dsb h (Taken r g t d) =
      (r == p && (same_tag g tag && d == suc (length h))) && answered_by dsb (λ b. tag_waits_at t q b h)
  completes_taken q dsb h _ = false
