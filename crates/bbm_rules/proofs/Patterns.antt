-- The patterns of Cleansing: later events keep them, and a cleansed place is seen.
use Rattle.bbm_rules.proofs.Common.{◌≡◌, ℕ, Bool, true, ◌&&◌, List, [], ◌∷◌, ◌++◌, refl, sym, subst, inl, inr}
use Rattle.bbm_rules.proofs.Common.{true≢false, or_cases, and_parts, and_from, Cover, Half, Second, Full, Place, Two}
use Rattle.bbm_rules.proofs.Common.{any_found, to_contains, Trust, answered_where, answers_one, cleansed, flushes}
use Rattle.bbm_rules.proofs.Common.{full_step, publishes_write, same_cover, second_step, seen, writes, Noted, Issued}
use Rattle.bbm_rules.proofs.Common.{completes, reaches, unanswered, Open}
use Rattle.bbm_barriers.specs.declared.Dsb.{Dsb as Barrier}
use Rattle.bbm_events.specs.Heading.{Heading}
use Rattle.bbm_events.specs.declared.event.Event.{Event}
use Rattle.bbm_events.specs.declared.event.Event.TheVariants.{Dsb}
use Rattle.bbm_rules.proofs.OpenLaw.{open_note_sound}
use Rattle.bbm_rules.proofs.SearchLemmas.{Found, some_found, some_later, some_weaker}
use Rattle.bbm_rules.specs.Claims.{allows}
use Rattle.bbm_rules.specs.Cleansing.{half_where, is_completed, seen_where}
use Rattle.bbm_rules.specs.Notes.{event_of}

-- ---- the tests of the searches

abbrev pub is_write : ℕ → ℕ → Noted → List Noted → Bool
is_write q place n older = writes q place n.event

abbrev pub is_answer : (ℕ → Issued Noted → Bool) → Noted → List Noted → Bool
is_answer test n older = answers_one (test n.position) n.event older

abbrev pub is_publication : Heading → ℕ → ℕ → (ℕ → Bool) → Noted → List Noted → Bool
is_publication heading place p test n older = publishes_write heading place p n.event older && test n.position

abbrev pub half_step : Heading → ℕ → ℕ → (ℕ → ℕ → ℕ → Bool) → ℕ → Issued Noted → Bool
half_step heading place p test d t = flushes heading place p Half (seen_where heading place p (λ b. test b t.tlbi.position d)) t

-- whether the positions of a pattern are trusted
abbrev pub one_allowed : Trust → ℕ → ℕ → ℕ → ℕ → ℕ → Bool
one_allowed trust place p t d b = allows trust (Place p place b t d)

abbrev pub two_allowed : Trust → ℕ → ℕ → ℕ → ℕ → ℕ → ℕ → ℕ → Bool
two_allowed trust place p t2 d2 b t1 d1 = allows trust (Two p place b t1 d1 t2 d2)

-- ---- a weaker test

module _ (heading : Heading) (place p : ℕ) where
  pub seen_weaker : (test other : ℕ → Bool) (since : List Noted) → ((k : ℕ) → test k ≡ true → other k ≡ true)
      → seen_where heading place p test since ≡ true → seen_where heading place p other since ≡ true
  seen_weaker test other since weaker s =
      some_weaker (is_publication heading place p test) (is_publication heading place p other) since
      (λ n older k. let both = and_parts (publishes_write heading place p n.event older) (test n.position) k in
      and_from (publishes_write heading place p n.event older) (other n.position) both.0 (weaker n.position both.1)) s

  -- what a TLBI flushes was ready for it
  ready : (cover : Cover) (test : List Noted → Bool) (t : Issued Noted) → flushes heading place p cover test t ≡ true
      → test t.before ≡ true
  ready cover test t k =
      (and_parts (reaches heading t.tlbi.event p && same_cover (t.tlbi.covers place) cover) (test t.before) k).1

-- ---- later events

-- Seen stays while no valid write of the place comes.
pub seen_stays : (heading : Heading) (place p : ℕ) (newer since : List Noted)
    → seen heading place p since ≡ true → seen heading place p (newer ++ since) ≡ true
seen_stays heading place p newer since s = some_later (is_publication heading place p (λ (b : ℕ). true)) newer since s

-- ---- an answered TLBI stands in the history

-- a TLBI that a barrier answers passes the test, and what came before it is an older part of the history
pub record AnsweredOne (test : Issued Noted → Bool) (e : Event) (older : List Noted) : Type 0 where
  pub issued : Issued Noted
  pub q : ℕ
  pub dsb : Barrier
  pub barrier : e ≡ Dsb q dsb
  pub is_open : Open event_of q older issued
  pub completed : completes dsb issued.tlbi.event ≡ true
  pub passed : test issued ≡ true

pub answered_one : (test : Issued Noted → Bool) (e : Event) (older : List Noted)
    → answers_one test e older ≡ true → AnsweredOne test e older
answered_one test (Dsb q dsb) older s =
    let f = any_found (is_completed dsb test) (unanswered event_of q older) s in
    record {
      issued = f.0;
      q = q;
      dsb = dsb;
      barrier = refl;
      is_open = open_note_sound q older f.0 (to_contains (unanswered event_of q older) f.0 f.1);
      completed = (and_parts (completes dsb f.0.tlbi.event) (test f.0) f.2).0;
      passed = (and_parts (completes dsb f.0.tlbi.event) (test f.0) f.2).1;
    }
answered_one test e older s = absurd (true≢false (sym s))

module _ (heading : Heading) (place p : ℕ) where
  -- a place that was seen before an answered TLBI is seen
  seen_before : (test : ℕ → Issued Noted → Bool) (since : List Noted)
      → ((d : ℕ) (t : Issued Noted) → test d t ≡ true → seen heading place p t.before ≡ true)
      → answered_where test since ≡ true → seen heading place p since ≡ true
  seen_before test since asks s =
      let f : Found (is_answer test) since = some_found (is_answer test) since s in
      let a : AnsweredOne (test f.item.position) f.item.event f.older
      = answered_one (test f.item.position) f.item.event f.older f.passed in
      let o : Open event_of a.q f.older a.issued = a.is_open in
      subst (λ (h : List Noted). seen heading place p h ≡ true) (sym f.split)
      (seen_stays heading place p f.newer (f.item ∷ f.older)
      (seen_stays heading place p (f.item ∷ []) f.older
      (subst (λ (h : List Noted). seen heading place p h ≡ true) (sym o.split)
      (seen_stays heading place p o.newer (a.issued.tlbi ∷ a.issued.before)
      (seen_stays heading place p (a.issued.tlbi ∷ []) a.issued.before (asks f.item.position a.issued a.passed))))))

  pub half_is_seen : (test : ℕ → ℕ → ℕ → Bool) (since : List Noted)
      → half_where heading place p test since ≡ true → seen heading place p since ≡ true
  half_is_seen test since s =
      seen_before (half_step heading place p test) since
      (λ d t k. seen_weaker heading place p _ (λ (b : ℕ). true) t.before (λ b y. refl)
      (ready heading place p Half (seen_where heading place p (λ b. test b t.tlbi.position d)) t k)) s

-- A cleansed place is seen.
pub cleansed_is_seen : (heading : Heading) (trust : Trust) (place p : ℕ) (since : List Noted)
    → cleansed heading trust place p since ≡ true → seen heading place p since ≡ true
cleansed_is_seen heading trust place p since s =
    elim (or_cases (answered_where (full_step heading trust place p) since)
    (answered_where (second_step heading trust place p) since) s) [
      | inl one ↦ seen_before heading place p (full_step heading trust place p) since
          (λ d t k. seen_weaker heading place p (one_allowed trust place p t.tlbi.position d) (λ (b : ℕ). true) t.before (λ b y. refl)
          (ready heading place p Full (seen_where heading place p (one_allowed trust place p t.tlbi.position d)) t k)) one
      | inr two ↦ seen_before heading place p (second_step heading trust place p) since
          (λ d t k. half_is_seen heading place p (two_allowed trust place p t.tlbi.position d) t.before
          (ready heading place p Second (half_where heading place p (two_allowed trust place p t.tlbi.position d)) t k)) two
    ]
