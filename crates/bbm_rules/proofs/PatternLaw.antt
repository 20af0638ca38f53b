-- Seen, half and cleansed are what the sentences say.
use Rattle.bbm_rules.proofs.Common.{◌≡◌, ℕ, Bool, true, ◌&&◌, ◌==◌, List, ◌∷◌, ◌++◌, refl, sym, ◌∙◌, ap, subst, inl}
use Rattle.bbm_rules.proofs.Common.{inr, true≢false, eq-eqb, eqb-true, or_cases, or_left, or_right, and_parts, and_from}
use Rattle.bbm_rules.proofs.Common.{Cover, Half, Second, Full, any_finds, from_contains, Trust, answered_where}
use Rattle.bbm_rules.proofs.Common.{answers_one, cleansed, flushes, full_step, half, publishes_write, same_cover}
use Rattle.bbm_rules.proofs.Common.{second_step, seen, writes, some, Noted, Answer, Cleansed, Flush, HalfBy, OneStep}
use Rattle.bbm_rules.proofs.Common.{Publication, TwoSteps, Issued, completes, reaches, unanswered, publishes_to}
use Rattle.bbm_barriers.specs.declared.Dsb.{Dsb as Barrier}
use Rattle.bbm_tlbi_scope.specs.declared.entry.Cover.TheVariants.{None as NoCover}
use Rattle.bbm_events.specs.Heading.{Heading}
use Rattle.bbm_events.specs.declared.event.Event.{Event}
use Rattle.bbm_events.specs.declared.event.Event.TheVariants.{Write, Dsb}
use Rattle.bbm_rules.proofs.OpenLaw.{open_note_complete}
use Rattle.bbm_rules.proofs.Patterns.{one_allowed, two_allowed, AnsweredOne, answered_one, half_step, is_answer}
use Rattle.bbm_rules.proofs.Patterns.{is_publication, is_write}
use Rattle.bbm_rules.proofs.SearchLemmas.{Found, some_found, some_finds}
use Rattle.bbm_rules.specs.Cleansing.{half_where, is_completed, seen_where}
use Rattle.bbm_rules.specs.Notes.{event_of}
use Rattle.bbm_rules.specs.PatternSentences.{IsHalf, Seen}

-- ---- a grade of cover

pub same_by : (c d : Cover) → same_cover c d ≡ true → c ≡ d
same_by NoCover NoCover e = refl
same_by Half Half e = refl
same_by Second Second e = refl
same_by Full Full e = refl
same_by NoCover Half e = absurd (true≢false (sym e))
same_by NoCover Second e = absurd (true≢false (sym e))
same_by NoCover Full e = absurd (true≢false (sym e))
same_by Half NoCover e = absurd (true≢false (sym e))
same_by Half Second e = absurd (true≢false (sym e))
same_by Half Full e = absurd (true≢false (sym e))
same_by Second NoCover e = absurd (true≢false (sym e))
same_by Second Half e = absurd (true≢false (sym e))
same_by Second Full e = absurd (true≢false (sym e))
same_by Full NoCover e = absurd (true≢false (sym e))
same_by Full Half e = absurd (true≢false (sym e))
same_by Full Second e = absurd (true≢false (sym e))

pub same_self : (c : Cover) → same_cover c c ≡ true
same_self NoCover = refl
same_self Half = refl
same_self Second = refl
same_self Full = refl

-- ---- an answer

record AnswerAt (test : ℕ → Issued Noted → Bool) (since : List Noted) : Type 0 where
  t : Issued Noted
  d : Noted
  answer : Answer since t d
  passed : test d.position t ≡ true

answer_found : (test : ℕ → Issued Noted → Bool) (since : List Noted) → answered_where test since ≡ true → AnswerAt test since
answer_found test since s =
    let f : Found (is_answer test) since = some_found (is_answer test) since s in
    let a : AnsweredOne (test f.item.position) f.item.event f.older
    = answered_one (test f.item.position) f.item.event f.older f.passed in
    record {
      t = a.issued;
      d = f.item;
      answer = record {
        q = a.q;
        dsb = a.dsb;
        newer = f.newer;
        older = f.older;
        split = f.split;
        barrier = a.barrier;
        is_open = a.is_open;
        completed = a.completed;
      };
      passed = a.passed;
    }

answer_finds : (test : ℕ → Issued Noted → Bool) (since : List Noted) (t : Issued Noted) (d : Noted) → Answer since t d
    → test d.position t ≡ true → answered_where test since ≡ true
answer_finds test since t d a k =
    some_finds (is_answer test) since (record {
      newer = a.newer;
      item = d;
      older = a.older;
      split = a.split;
      passed = subst (λ (e : Event). answers_one (test d.position) e a.older ≡ true) (sym a.barrier)
          (any_finds (is_completed a.dsb (test d.position)) (unanswered event_of a.q a.older) t
          (from_contains (unanswered event_of a.q a.older) t (open_note_complete a.q a.older t a.is_open))
          (and_from (completes a.dsb t.tlbi.event) (test d.position t) a.completed k));
    })

-- ---- a publication

pub write_by : (q place : ℕ) (e : Event) → writes q place e ≡ true → (value : ℕ) × (e ≡ Write q place value)
write_by q place (Write pe at value) k =
    let parts = and_parts (pe == q) (at == place) k in
    (value, ap (λ (x : ℕ). Write x at value) (eqb-true pe q parts.0) ∙ ap (λ (x : ℕ). Write q x value) (eqb-true at place parts.1))
write_by q place e k = absurd (true≢false (sym k))

pub writes_it : (q place value : ℕ) → writes q place (Write q place value) ≡ true
writes_it q place value = and_from (q == q) (place == place) (eq-eqb q q refl) (eq-eqb place place refl)

module _ (heading : Heading) (place p : ℕ) where
  record PublishedWrite (e : Event) (rest : List Noted) : Type 0 where
    q : ℕ
    dsb : Barrier
    barrier : e ≡ Dsb q dsb
    publishes : publishes_to heading dsb q p ≡ true
    found : Found (is_write q place) rest

  published_write : (e : Event) (rest : List Noted) → publishes_write heading place p e rest ≡ true → PublishedWrite e rest
  published_write (Dsb q dsb) rest k =
      let parts = and_parts (publishes_to heading dsb q p) (some (is_write q place) rest) k in
      record { q = q; dsb = dsb; barrier = refl; publishes = parts.0; found = some_found (is_write q place) rest parts.1 }
  published_write e rest k = absurd (true≢false (sym k))

  publication_found : (test : ℕ → Bool) (since : List Noted) → seen_where heading place p test since ≡ true
      → (b : Noted) × Publication heading place p since b × (test b.position ≡ true)
  publication_found test since s =
      let f : Found (is_publication heading place p test) since = some_found (is_publication heading place p test) since s in
      let both = and_parts (publishes_write heading place p f.item.event f.older) (test f.item.position) f.passed in
      let w : PublishedWrite f.item.event f.older = published_write f.item.event f.older both.0 in
      let v = write_by w.q place w.found.item.event w.found.passed in (
        f.item,
        record {
          q = w.q;
          dsb = w.dsb;
          value = v.0;
          write = w.found.item;
          newer = f.newer;
          between = w.found.newer;
          older = w.found.older;
          split = f.split ∙ ap (λ (xs : List Noted). f.newer ++ f.item ∷ xs) w.found.split;
          wrote = v.1;
          barrier = w.barrier;
          publishes = w.publishes;
        },
        both.1,
      )

  publication_finds : (test : ℕ → Bool) (since : List Noted) (b : Noted) → Publication heading place p since b
      → test b.position ≡ true → seen_where heading place p test since ≡ true
  publication_finds test since b k passed =
      let rest : List Noted = k.between ++ k.write ∷ k.older in
      some_finds (is_publication heading place p test) since (record {
        newer = k.newer;
        item = b;
        older = rest;
        split = k.split;
        passed = and_from (publishes_write heading place p b.event rest) (test b.position)
            (subst (λ (e : Event). publishes_write heading place p e rest ≡ true) (sym k.barrier)
            (and_from (publishes_to heading k.dsb k.q p) (some (is_write k.q place) rest) k.publishes
            (some_finds (is_write k.q place) rest (record {
              newer = k.between;
              item = k.write;
              older = k.older;
              split = refl;
              passed = ap (writes k.q place) k.wrote ∙ writes_it k.q place k.value;
            })))) passed;
      })

  -- ---- one flush

  flush_parts : (cover : Cover) (test : List Noted → Bool) (since : List Noted) (t : Issued Noted) (d : Noted)
      → Answer since t d → flushes heading place p cover test t ≡ true
      → Flush heading cover place p since t d × (test t.before ≡ true)
  flush_parts cover test since t d a k =
      let both = and_parts (reaches heading t.tlbi.event p && same_cover (t.tlbi.covers place) cover) (test t.before) k in
      let one = and_parts (reaches heading t.tlbi.event p) (same_cover (t.tlbi.covers place) cover) both.0 in (
        record { answer = a; reached = one.0; covered = same_by (t.tlbi.covers place) cover one.1 },
        both.1,
      )

  flush_from : (cover : Cover) (test : List Noted → Bool) (since : List Noted) (t : Issued Noted) (d : Noted)
      → Flush heading cover place p since t d → test t.before ≡ true → flushes heading place p cover test t ≡ true
  flush_from cover test since t d f k =
      and_from (reaches heading t.tlbi.event p && same_cover (t.tlbi.covers place) cover) (test t.before)
      (and_from (reaches heading t.tlbi.event p) (same_cover (t.tlbi.covers place) cover) f.reached
      (ap (λ (c : Cover). same_cover c cover) f.covered ∙ same_self cover)) k

  record HalfAt (test : ℕ → ℕ → ℕ → Bool) (since : List Noted) : Type 0 where
    b : Noted
    t : Issued Noted
    d : Noted
    by : HalfBy heading place p since b t d
    passed : test b.position t.tlbi.position d.position ≡ true

  half_found : (test : ℕ → ℕ → ℕ → Bool) (since : List Noted) → half_where heading place p test since ≡ true → HalfAt test since
  half_found test since s =
      let a : AnswerAt (half_step heading place p test) since = answer_found (half_step heading place p test) since s in
      let parts = flush_parts Half (seen_where heading place p (λ b. test b a.t.tlbi.position a.d.position)) since a.t a.d
      a.answer a.passed in
      let b = publication_found (λ b. test b a.t.tlbi.position a.d.position) a.t.before parts.1 in
      record { b = b.0; t = a.t; d = a.d; by = record { flush = parts.0; published = b.1 }; passed = b.2 }

  half_finds : (test : ℕ → ℕ → ℕ → Bool) (since : List Noted) (b : Noted) (t : Issued Noted) (d : Noted)
      → HalfBy heading place p since b t d → test b.position t.tlbi.position d.position ≡ true
      → half_where heading place p test since ≡ true
  half_finds test since b t d k passed =
      answer_finds (half_step heading place p test) since t d k.flush.answer
      (flush_from Half (seen_where heading place p (λ x. test x t.tlbi.position d.position)) since t d k.flush
      (publication_finds (λ x. test x t.tlbi.position d.position) t.before b k.published passed))

  pub seen_sound : (since : List Noted) → seen heading place p since ≡ true → Seen heading place p since
  seen_sound since s = let b = publication_found (λ (b : ℕ). true) since s in (b.0, b.1)

  pub seen_complete : (since : List Noted) → Seen heading place p since → seen heading place p since ≡ true
  seen_complete since s = publication_finds (λ (b : ℕ). true) since s.0 s.1 refl

  pub half_sound : (since : List Noted) → half heading place p since ≡ true → IsHalf heading place p since
  half_sound since s = let k : HalfAt (λ (b t d : ℕ). true) since = half_found (λ (b t d : ℕ). true) since s in (k.b, k.t, k.d, k.by)

  pub half_complete : (since : List Noted) → IsHalf heading place p since → half heading place p since ≡ true
  half_complete since s = half_finds (λ (b t d : ℕ). true) since s.0 s.1 s.2 s.3 refl

module _ (heading : Heading) (trust : Trust) (place p : ℕ) where
  one_found : (since : List Noted) → answered_where (full_step heading trust place p) since ≡ true
      → OneStep heading trust place p since
  one_found since s =
      let a : AnswerAt (full_step heading trust place p) since = answer_found (full_step heading trust place p) since s in
      let parts = flush_parts heading place p Full
      (seen_where heading place p (one_allowed trust place p a.t.tlbi.position a.d.position)) since a.t a.d a.answer
      a.passed in
      let b = publication_found heading place p (one_allowed trust place p a.t.tlbi.position a.d.position) a.t.before
      parts.1 in
      record { b = b.0; t = a.t; d = a.d; published = b.1; flush = parts.0; allowed = b.2 }

  one_finds : (since : List Noted) → OneStep heading trust place p since
      → answered_where (full_step heading trust place p) since ≡ true
  one_finds since k =
      answer_finds (full_step heading trust place p) since k.t k.d k.flush.answer
      (flush_from heading place p Full
      (seen_where heading place p (one_allowed trust place p k.t.tlbi.position k.d.position)) since k.t k.d k.flush
      (publication_finds heading place p (one_allowed trust place p k.t.tlbi.position k.d.position) k.t.before k.b
      k.published k.allowed))

  two_found : (since : List Noted) → answered_where (second_step heading trust place p) since ≡ true
      → TwoSteps heading trust place p since
  two_found since s =
      let a : AnswerAt (second_step heading trust place p) since = answer_found (second_step heading trust place p) since s in
      let parts = flush_parts heading place p Second
      (half_where heading place p (two_allowed trust place p a.t.tlbi.position a.d.position)) since a.t a.d a.answer
      a.passed in
      let k : HalfAt heading place p (two_allowed trust place p a.t.tlbi.position a.d.position) a.t.before
      = half_found heading place p (two_allowed trust place p a.t.tlbi.position a.d.position) a.t.before parts.1 in
      record { b = k.b; t1 = k.t; d1 = k.d; t2 = a.t; d2 = a.d; first = k.by; second = parts.0; allowed = k.passed }

  two_finds : (since : List Noted) → TwoSteps heading trust place p since
      → answered_where (second_step heading trust place p) since ≡ true
  two_finds since k =
      answer_finds (second_step heading trust place p) since k.t2 k.d2 k.second.answer
      (flush_from heading place p Second
      (half_where heading place p (two_allowed trust place p k.t2.tlbi.position k.d2.position)) since k.t2 k.d2 k.second
      (half_finds heading place p (two_allowed trust place p k.t2.tlbi.position k.d2.position) k.t2.before k.b k.t1 k.d1
      k.first k.allowed))

  pub cleansed_sound : (since : List Noted) → cleansed heading trust place p since ≡ true → Cleansed heading trust place p since
  cleansed_sound since s =
      elim (or_cases (answered_where (full_step heading trust place p) since)
      (answered_where (second_step heading trust place p) since) s) [
        | inl one ↦ inl (one_found since one)
        | inr two ↦ inr (two_found since two)
      ]

  pub cleansed_complete : (since : List Noted) → Cleansed heading trust place p since → cleansed heading trust place p since ≡ true
  cleansed_complete since (inl one) =
      or_left (answered_where (full_step heading trust place p) since)
      (answered_where (second_step heading trust place p) since) (one_finds since one)
  cleansed_complete since (inr two) =
      or_right (answered_where (full_step heading trust place p) since)
      (answered_where (second_step heading trust place p) since) (two_finds since two)
