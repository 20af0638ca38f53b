-- A certificate that is made event by event.
use Rattle.bbm_certify.proofs.Common.{notes_of, Kept, notes, IsNewest, is_write_of, Known, IsCertificate, AreDue}
use Rattle.bbm_certify.proofs.Common.{HasTaken, IsMaking, Adds, AreTaken, IsKnown, ReadsAreWritten}
use Rattle.bbm_rules.proofs.Common.{◌≡◌, ℕ, suc, ◌-◌, ◌≤◌, true, ◌||◌, List, [], ◌∷◌, ◌++◌, length, take, drop, reverse}
use Rattle.bbm_rules.proofs.Common.{refl, sym, ◌∙◌, ap, subst, arith, length-append, length-reverse, length-take-le}
use Rattle.bbm_rules.proofs.Common.{reverse-append, reverse-reverse, take-append-drop, take_at, Claim, keeps, Trust}
use Rattle.bbm_rules.proofs.Common.{Patterns, note, noted, among, Noted, Barrier, Heading, Event, Dsb}
use Rattle.bbm_oracle_trees.specs.Past.{Past}
use Rattle.bbm_certify.specs.DueAt.{AreDue as ArePlaces}
use Rattle.bbm_oracle_trees.specs.ByPatterns.{StandsByPatterns}
use Rattle.bbm_certify.specs.declared.making.Making.{Making}
use Rattle.bbm_certify.proofs.Knowing.{kept_now, reads_written}
use Rattle.bbm_certify.proofs.Whole.{due_at_dsb, written_next}
use Rattle.bbm_histories.proofs.Induction.{kept_before}
use Rattle.bbm_oracle_patterns.proofs.KeptNotes.{length_events, length_notes}

-- ---- lists

-- a list without its last item, from its end
pub without_last : {A : Type 0} (xs : List A) (x : A) (rest : List A) → reverse xs ≡ x ∷ rest
    → reverse (take (length xs - 1) xs) ≡ rest
without_last {A} xs x rest split =
    let whole : xs ≡ reverse rest ++ x ∷ []
    = sym (reverse-reverse xs) ∙ (ap (λ (ys : List A). reverse ys) split ∙ reverse-append (x ∷ []) rest) in
    let count : length (reverse rest) ≡ length xs - 1
    = omega (arith, ap length whole, length-append (reverse rest) (x ∷ [])) in
    ap (λ (ys : List A). reverse (take (length xs - 1) ys)) whole
    ∙ (ap (λ (ys : List A). reverse ys) (take_at (reverse rest) (x ∷ []) (length xs - 1) count) ∙ reverse-reverse rest)

-- ---- what is kept

pub keeps_first : (heading : Heading) (log : List Event) (i : ℕ) → keeps heading Patterns (reverse log) ≡ true
    → keeps heading Patterns (reverse (take i log)) ≡ true
keeps_first heading log i kept =
    kept_before heading Patterns (reverse (drop i log)) (reverse (take i log))
    (ap (λ (h : List Event). keeps heading Patterns h)
    (sym (ap (λ (xs : List Event). reverse xs) (sym (take-append-drop i log)) ∙ reverse-append (take i log) (drop i log))) ∙ kept)

-- how many events a history has
pub count_is : (past : Past) (heading : Heading) (h : List Event) → StandsByPatterns past heading h → length past.kept ≡ length h
count_is past heading h s = sym (length_events past.kept) ∙ ap length s.kept.events_are

-- the same claims were added
moved : (F : Heading → Trust → List Noted → List Noted → Claim → Type 0) (g heading : Heading) (t trust : Trust)
    (ns after es before : List Noted) (none xs : List Claim) → g ≡ heading → t ≡ trust → ns ≡ after → es ≡ before → none ≡ []
    → Adds (F g t ns es) none xs → Adds (F heading trust after before) [] xs
moved F g heading t trust ns after es before none xs a b c d e k = rw (a, b, c, d, e) at k

-- ---- one event

module _ (heading : Heading) (known : Known heading) (m : Making) (h : List Event) where
  module _ (q : ℕ) (dsb : Barrier) (taken : HasTaken m heading h (Dsb q dsb)) (log : List Kept)
      (log_is : reverse log ≡ m.history.kept) where
    abbrev before : List Noted
    before = noted heading Patterns h

    abbrev newest : Noted
    newest = note heading Patterns before (Dsb q dsb)

    notes_are : notes_of (reverse log) ≡ newest ∷ before
    notes_are =
        ap (λ (ks : List Kept). notes_of ks) log_is
        ∙ (taken.history.kept.notes_are ∙ ap (λ (t : Trust). noted heading t (Dsb q dsb ∷ h)) taken.history.trust_is)

    before_by : (ks : List Kept) → reverse log ≡ ks → notes_of ks ≡ newest ∷ before
        → notes_of (reverse (take (length log - 1) log)) ≡ before
    before_by [] is e = absurd (cc)
    before_by (k ∷ older) is e =
        let rest : notes_of older ≡ before = cc in
        ap (λ (ks : List Kept). notes_of ks) (without_last log k older is) ∙ rest

    pub before_is : notes_of (reverse (take (length log - 1) log)) ≡ before
    before_is = before_by (reverse log) refl notes_are

    pub newest_is : IsNewest newest (Dsb q dsb) (length (take (length log - 1) log))
    newest_is =
        let count : length (take (length log - 1) log) ≡ length before
        = sym (length-reverse (take (length log - 1) log))
        ∙ (sym (length_notes (reverse (take (length log - 1) log))) ∙ ap length before_is) in
        (q, dsb, refl, refl, ap suc (sym count))

    pub due_here : (none xs ys : List Claim) → none ≡ []
        → Adds (ArePlaces m.history.heading m.history.trust (notes m.history) newest (notes_of (reverse (take (length log - 1) log)))
        m.places.items) none xs
        → Adds (AreTaken heading h (Dsb q dsb) m.known.items) xs ys → AreDue heading h (Dsb q dsb) ys
    due_here none xs ys empty a b =
        due_at_dsb heading known h q dsb taken.keeps_rules m.places.items taken.places m.known.items taken.known xs ys
        (moved (λ g t ns es. ArePlaces g t ns newest es m.places.items) m.history.heading heading m.history.trust Patterns
        (notes m.history) (noted heading Patterns (Dsb q dsb ∷ h)) (notes_of (reverse (take (length log - 1) log))) before none xs
        taken.history.kept.heading_is taken.history.trust_is
        (taken.history.kept.notes_are ∙ ap (λ (t : Trust). noted heading t (Dsb q dsb ∷ h)) taken.history.trust_is)
        before_is empty a) b

  -- what is kept for the next event
  pub making_next : (e : Event) (new : Making) → IsMaking m heading h → keeps heading Patterns (e ∷ h) ≡ true
      → StandsByPatterns new.history heading (e ∷ h)
      → ((a : ℕ) → among a new.places.items ≡ (is_write_of a e || among a m.places.items))
      → (ReadsAreWritten heading h e → IsKnown heading h m.known.items → IsKnown heading (e ∷ h) new.known.items)
      → IsMaking new heading (e ∷ h)
  making_next e new was kept stands places readable = record {
    history = stands;
    places = written_next heading h e m.places.items new.places.items was.places places;
    known = readable (reads_written heading h e (known.tags.becomes h e known.proper kept)
        (kept_now heading h (λ p root tag. known.tag_kept.complete p root tag h))) was.known;
  }

-- ---- the certificate

pub certificate_next : (heading : Heading) (h h' : List Event) (e : Event) (before due after : List Claim) → e ∷ h ≡ h'
    → IsCertificate heading h before → AreDue heading h e due → after ≡ before ++ due → IsCertificate heading h' after
certificate_next heading h h' e before due after is cert d whole =
    subst (λ (x : List Event). IsCertificate heading x after) is
    (before, due, whole, cert, d.sorted, d.sound, d.complete)

-- how many events a history of the first of a log has
pub first_count : (past : Past) (heading : Heading) (log : List Event) (i : ℕ) → i ≤ length log
    → StandsByPatterns past heading (reverse (take i log)) → length past.kept ≡ i
first_count past heading log i within s =
    count_is past heading (reverse (take i log)) s ∙ (length-reverse (take i log) ∙ length-take-le i log within)
