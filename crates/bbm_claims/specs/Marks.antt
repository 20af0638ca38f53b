-- Since when the claims of a certificate are true. The *mark* of a claim, in the notes of a log, is the number of
-- events
-- up to the newest write of the place that the claim's first barrier publishes; it is 0 where the claim is true of no
-- part of the log. So the claim is true of the events after the first n exactly where its mark is above n. Notes are
-- newest first, and the position of an event is the number of notes from it on. No public contract cites these words.
-- Source: project's own choice.
use Rattle.std.specs.Prelude.{ℕ, suc, length, Bool, false, not, ◌&&◌, ◌==◌, nat_lt, List, [], ◌∷◌, if◌then◌else◌}
use Rattle.bbm_barriers.specs.Options.{answers}
use Rattle.bbm_tlbi_scope.specs.declared.entry.Cover.{Cover}
use Rattle.bbm_tlbi_scope.specs.declared.entry.Cover.TheVariants.{Half, Second, Full}
use Rattle.bbm_events.specs.declared.claim.Claim.{Claim}
use Rattle.bbm_events.specs.declared.claim.Claim.TheVariants.{Place, Two, Taken}
use Rattle.bbm_rules.specs.Prelude.{Heading, Event, Dsb}
use Rattle.bbm_rules.specs.Cleansing.{same_cover, writes}
use Rattle.bbm_rules.specs.Notes.{Noted}
use Rattle.bbm_rules.specs.Reach.{reaches}
use Rattle.bbm_rules.specs.Sentences.{issues}
use Rattle.bbm_rules.specs.Values.{publishes_to}
use Rattle.bbm_histories.specs.HistorySteps.{answered_by, is_tlbi}

-- what is marked by the note at a position and those before it; 0 where there is no note
abbrev pub mark_at : ℕ → (Noted → List Noted → ℕ) → List Noted → ℕ
mark_at i f [] = 0
mark_at i f (n ∷ h) = if i == suc (length h) then f n h else mark_at i f h

-- how many events there are up to the newest write of the place by q
abbrev pub wrote_mark : ℕ → ℕ → List Noted → ℕ
wrote_mark place q [] = 0
wrote_mark place q (n ∷ h) = if writes q place n.event then suc (length h) else wrote_mark place q h

-- a barrier of q that answers TLBIs of q, broadcast or not as told
abbrev pub answers_for : ℕ → Bool → Event → Bool
answers_for q k (Dsb pe dsb) = pe == q && answers dsb k
answers_for q k _ = false

module _ (heading : Heading) (place p : ℕ) where
  -- by an event that publishes a write of the place to p
  abbrev pub publication_mark : Event → List Noted → ℕ
  publication_mark (Dsb q dsb) before = if publishes_to heading dsb q p then wrote_mark place q before else 0
  publication_mark _ before = 0

  -- the same, by the event at position b
  abbrev pub seen_mark : ℕ → List Noted → ℕ
  seen_mark b h = mark_at b (λ n before. publication_mark n.event before) h

  -- a TLBI of q, broadcast or not as told, that reaches p and covers the place so far
  abbrev pub flushes_for : ℕ → Bool → Cover → Noted → Bool
  flushes_for q k cover n =
      (issues q n.event && is_tlbi k n.event) && (reaches heading n.event p && same_cover (n.covers place) cover)

  -- such a TLBI stands at position t, and isn't answered
  abbrev pub waits_at : ℕ → Bool → Cover → ℕ → List Noted → Bool
  waits_at q k cover t [] = false
  waits_at q k cover t (n ∷ h) = if t == suc (length h) then flushes_for q k cover n
      else not (answers_for q k n.event) && waits_at q k cover t h

  -- what is marked by the events before the TLBI at position t, where this event answers it
  abbrev pub flush_mark : Cover → ℕ → (List Noted → ℕ) → Event → List Noted → ℕ
  flush_mark cover t mark (Dsb q dsb) h =
      if answered_by dsb (λ k. waits_at q k cover t h) then mark_at t (λ n before. mark before) h else 0
  flush_mark cover t mark _ h = 0

  -- by the events at b, t and d that make the place half
  abbrev pub half_mark : ℕ → ℕ → ℕ → List Noted → ℕ
  half_mark b t d h = mark_at d (λ n before. flush_mark Half t (seen_mark b) n.event before) h

-- the last position of a claim
abbrev pub end_of : Claim → ℕ
end_of (Place p a b t d) = d
end_of (Two p a b t1 d1 t2 d2) = d2
end_of (Taken p tag t d) = d

module _ (heading : Heading) where
  -- by the claim, where this event stands at its last position
  abbrev pub completed_mark : Claim → Event → List Noted → ℕ
  completed_mark (Place p a b t d) e h = flush_mark heading a p Full t (seen_mark heading a p b) e h
  completed_mark (Two p a b t1 d1 t2 d2) e h = flush_mark heading a p Second t2 (half_mark heading a p b t1 d1) e h
  completed_mark (Taken p tag t d) e h = 0

  -- the mark of the claim
  abbrev pub claim_mark : Claim → List Noted → ℕ
  claim_mark claim h = mark_at (end_of claim) (λ n before. completed_mark claim n.event before) h

-- whether it is a claim of this place and PE
abbrev pub is_of : ℕ → ℕ → Claim → Bool
is_of place p (Place r a b t d) = r == p && a == place
is_of place p (Two r a b t1 d1 t2 d2) = r == p && a == place
is_of place p (Taken r tag t d) = false

-- whether such a claim is true of the events after the first n of the notes
abbrev pub is_true_of : Heading → ℕ → ℕ → ℕ → List Noted → Claim → Bool
is_true_of heading place p n h claim = is_of place p claim && nat_lt n (claim_mark heading claim h)
