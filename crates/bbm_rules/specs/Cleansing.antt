-- When no TLB of a PE keeps the last valid value of a place any more. Here `since` is the part of the annotated
-- history after the last valid write of the place, newest first. Each search goes back through it, and goes on in
-- what came before the event that it found; so the order of the events is that of the nesting.
-- Source: Arm ARM (DDI 0487), "Using break-before-make when updating translation table entries", and "TLB
-- maintenance instructions".
use Rattle.std.specs.Prelude.{ℕ, Bool, true, false, ◌&&◌, ◌||◌, ◌==◌, List, map}
use Rattle.bbm_tlbi_scope.specs.declared.entry.Cover.{Cover}
use Rattle.bbm_tlbi_scope.specs.declared.entry.Cover.TheVariants.{Half, Second, Full}
pub use Rattle.bbm_tlbi_scope.specs.SameCover.{same_cover}
use Rattle.bbm_rules.specs.Prelude.{Barrier, Heading, Event, Write, Dsb}
use Rattle.bbm_events.specs.declared.claim.Claim.TheVariants.{Place, Two}
use Rattle.bbm_rules.specs.Claims.{Trust, allows}
use Rattle.bbm_rules.specs.Lists.{any, some}
use Rattle.bbm_rules.specs.Notes.{Noted, event_of, topped}
use Rattle.bbm_rules.specs.Reach.{Issued, completes, reaches, unanswered}
use Rattle.bbm_rules.specs.Values.{publishes_to}

-- a write of the place by the PE q
abbrev pub writes : ℕ → ℕ → Event → Bool
writes q place (Write pe at value) = pe == q && at == place
writes q place _ = false

-- a barrier that answers a TLBI of its PE which passes the test; the test has the position of the answer first
abbrev pub is_completed : Barrier → (Issued Noted → Bool) → Issued Noted → Bool
is_completed dsb test t = completes dsb t.tlbi.event && test t

abbrev pub answers_one : (Issued Noted → Bool) → Event → List Noted → Bool
answers_one test (Dsb q dsb) older = any (is_completed dsb test) (unanswered event_of q older)
answers_one test _ older = false

abbrev pub answered_where : (ℕ → Issued Noted → Bool) → List Noted → Bool
answered_where test since = some (λ n older. answers_one (test n.position) n.event older) since

module _ (heading : Heading) (place p : ℕ) where
  -- a barrier that publishes to p a write of the place that came before it
  abbrev pub publishes_write : Event → List Noted → Bool
  publishes_write (Dsb q dsb) older = publishes_to heading dsb q p && some (λ n before. writes q place n.event) older
  publishes_write _ older = false

  abbrev pub seen_where : (ℕ → Bool) → List Noted → Bool
  seen_where test since = some (λ n older. publishes_write n.event older && test n.position) since

  -- Seen: some write of the place is published to p, at whatever position.
  abbrev pub seen : List Noted → Bool
  seen since = seen_where (λ b. true) since

  -- a TLBI that reaches p and covers the place so far, issued when the test held of what came before it
  abbrev pub flushes : Cover → (List Noted → Bool) → Issued Noted → Bool
  flushes cover test t = reaches heading t.tlbi.event p && same_cover (t.tlbi.covers place) cover && test t.before

  -- Half: a barrier publishes a write of the place to p at b; then at t a TLBI that reaches p and covers the place half
  -- is issued; and at d that TLBI is answered.
  abbrev pub half_where : (ℕ → ℕ → ℕ → Bool) → List Noted → Bool
  half_where test since = answered_where (λ d t. flushes Half (seen_where (λ b. test b t.tlbi.position d)) t) since

  abbrev pub half : List Noted → Bool
  half since = half_where (λ b t d. true) since

-- Cleansed: one of two patterns stands after the last valid write. In the first a barrier publishes a write of the
-- place to p at b, then at t a TLBI that reaches p and covers the place in full is issued, and at d it is answered. In
-- the second, of stage 2 alone, the place is half by b, t1 and d1, and then at t2 a TLBI that reaches p and covers the
-- rest is issued, and at d2 it is answered.
module _ (heading : Heading) (trust : Trust) (place p : ℕ) where
  abbrev pub full_step : ℕ → Issued Noted → Bool
  full_step d t = flushes heading place p Full
      (seen_where heading place p (λ b. allows trust (Place p place b t.tlbi.position d))) t

  abbrev pub second_step : ℕ → Issued Noted → Bool
  second_step d2 t2 = flushes heading place p Second
      (half_where heading place p (λ b t1 d1. allows trust (Two p place b t1 d1 t2.tlbi.position d2))) t2

  abbrev pub cleansed : List Noted → Bool
  cleansed since = answered_where full_step since || answered_where second_step since

  -- Above: no TLB of p keeps an entry that ends in the last valid value of the place any more. The patterns are those of
  -- cleansed, with the top cover of each TLBI in the place of its cover. Entries that end below a table may still be kept.
  abbrev pub above : List Noted → Bool
  above since = cleansed (map topped since)
