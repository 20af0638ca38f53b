-- The marks of claims, and what they say of the newer part of a log. Everywhere `newer` are the events after the first
-- `length older`, and a mark is above that number exactly where the definition holds of `newer`.
use Rattle.bbm_claims.proofs.Common.{half_by, seen_by, answered_by, is_tlbi, waits, Known, answers_for, flush_mark}
use Rattle.bbm_claims.proofs.Common.{half_mark, mark_at, publication_mark, seen_mark, waits_at, wrote_mark}
use Rattle.bbm_rules.proofs.Common.{◌≡◌, ℕ, suc, ◌≤◌, ◌<◌, Bool, true, false, cond, ◌&&◌, ◌||◌, not, nat_lt, ◌==◌, List}
use Rattle.bbm_rules.proofs.Common.{[], ◌∷◌, ◌++◌, length, refl, sym, ◌∙◌, ap, zero-le, arith, length-append, and_right}
use Rattle.bbm_rules.proofs.Common.{eqb-true, le-ltb, lt-ltb, ne_eqb, answers, Cover, Half, flushes, publishes_write}
use Rattle.bbm_rules.proofs.Common.{same_cover, writes, some, Noted, Barrier, Heading, Event, Dsb, Tlbi, Issued}
use Rattle.bbm_rules.proofs.Common.{reaches, issues, publishes_to}
use Rattle.std.proofs.Math.Bool.{and_comm}
use Rattle.std.proofs.lemmas.Bool.{cond_both}
use Rattle.bbm_rules.specs.Notes.{event_of}
use Rattle.bbm_histories.specs.ClaimSteps.{half_at, half_by_after}
use Rattle.bbm_histories.specs.HistorySteps.{waits_after}
use Rattle.bbm_claims.proofs.Tests.{and_or, dsb_case, lt_at, lt_cond, none_below, tlbi_case}

-- the position of each note is the number of notes from it on
abbrev pub Numbered : List Noted → Type 0
Numbered [] = Unit {0}
Numbered (n ∷ h) = (n.position ≡ suc (length h)) × Numbered h

-- ---- marks are within

-- a position that no note has yet
past : (i : ℕ) (h : List Noted) → length h < i → (i == length h) ≡ false
past i h later = ne_eqb i (length h) (λ e. omega arith)

pub mark_none : (i : ℕ) (f : Noted → List Noted → ℕ) (h : List Noted) → length h < i → mark_at i f h ≡ 0
mark_none i f [] later = refl
mark_none i f (n ∷ h) later = rw (past i (n ∷ h) later) (mark_none i f h (omega arith))

pub mark_within : (i : ℕ) (f : Noted → List Noted → ℕ) → ((n : Noted) (h : List Noted) → f n h ≤ length h)
    → (h : List Noted)
    → mark_at i f h ≤ length h
mark_within i f each [] = zero-le
mark_within i f each (n ∷ h) =
    cond_both (i == suc (length h)) (f n h) (mark_at i f h) (λ x. x ≤ suc (length h))
    (λ e. omega (arith, each n h)) (λ e. omega (arith, mark_within i f each h))

pub wrote_within : (place q : ℕ) (h : List Noted) → wrote_mark place q h ≤ length h
wrote_within place q [] = zero-le
wrote_within place q (n ∷ h) =
    cond_both (writes q place n.event) (suc (length h)) (wrote_mark place q h) (λ x. x ≤ suc (length h))
    (λ e. omega arith) (λ e. omega (arith, wrote_within place q h))

pub wrote_is : (place q : ℕ) (newer older : List Noted)
    → nat_lt (length older) (wrote_mark place q (newer ++ older)) ≡ some (λ n before. writes q place n.event) newer
wrote_is place q [] older = le-ltb (length older) (wrote_mark place q older) (wrote_within place q older)
wrote_is place q (n ∷ newer) older = one (writes q place n.event) (wrote_is place q newer older)
  where
    one : (b : Bool)
        → nat_lt (length older) (wrote_mark place q (newer ++ older)) ≡ some (λ n before. writes q place n.event) newer
        → nat_lt (length older) (cond b (suc (length (newer ++ older))) (wrote_mark place q (newer ++ older)))
        ≡ (b || some (λ n before. writes q place n.event) newer)
    one true before = lt-ltb (length older) (suc (length (newer ++ older))) (omega (arith, length-append newer older))
    one false before = before

module _ (heading : Heading) (place p : ℕ) where
  pub publication_within : (e : Event) (h : List Noted) → publication_mark heading place p e h ≤ length h
  publication_within (Dsb q dsb) h =
      cond_both (publishes_to heading dsb q p) (wrote_mark place q h) 0 (λ x. x ≤ length h)
      (λ e. wrote_within place q h) (λ e. zero-le)
  publication_within _ h = zero-le

  pub publication_is : (e : Event) (newer older : List Noted)
      → nat_lt (length older) (publication_mark heading place p e (newer ++ older))
      ≡ publishes_write heading place p e newer
  publication_is (Dsb q dsb) newer older =
      lt_cond (publishes_to heading dsb q p) (length older) (wrote_mark place q (newer ++ older))
      ∙ ap (λ (b : Bool). publishes_to heading dsb q p && b) (wrote_is place q newer older)
  publication_is _ newer older = none_below (length older)

  pub seen_within : (b : ℕ) (h : List Noted) → seen_mark heading place p b h ≤ length h
  seen_within b h =
      mark_within b (λ n before. publication_mark heading place p n.event before)
      (λ n before. publication_within n.event before) h

  pub seen_is : (b : ℕ) (newer older : List Noted) → Numbered (newer ++ older)
      → nat_lt (length older) (seen_mark heading place p b (newer ++ older)) ≡ seen_by heading place p b newer
  seen_is b [] older numbered = le-ltb (length older) (seen_mark heading place p b older) (seen_within b older)
  seen_is b (n ∷ newer) older numbered =
      lt_at (b == suc (length (newer ++ older))) (length older)
      (publication_mark heading place p n.event (newer ++ older)) (seen_mark heading place p b (newer ++ older))
      (publishes_write heading place p n.event newer) (seen_by heading place p b newer)
      (publication_is n.event newer older) (seen_is b newer older numbered.1)
      (λ k. let e = eqb-true b (suc (length (newer ++ older))) k in
      mark_none b (λ n before. publication_mark heading place p n.event before) (newer ++ older) (omega arith))
      ∙ ap (λ (i : ℕ). (publishes_write heading place p n.event newer && b == i) || seen_by heading place p b newer)
      (sym numbered.0)

  -- ---- a TLBI that waits

  -- the TLBI at position t flushes the place so far, after what the test says
  abbrev pub flush_at : Cover → ℕ → (List Noted → Bool) → Issued Noted → Bool
  flush_at cover t test i = flushes heading place p cover (λ before. t == i.tlbi.position && test before) i

  waits_none : (q : ℕ) (k : Bool) (cover : Cover) (t : ℕ) (h : List Noted) → length h < t
      → waits_at heading place p q k cover t h ≡ false
  waits_none q k cover t [] later = refl
  waits_none q k cover t (n ∷ h) later =
      rw (past t (n ∷ h) later)
      (and_right (not (answers_for q k n.event)) (waits_at heading place p q k cover t h)
      (waits_none q k cover t h (omega arith)))

  -- what the TLBI is marked by, and what that says
  pub record Marks (mark : List Noted → ℕ) (test : List Noted → Bool) : Type 0 where
    pub within : (h : List Noted) → mark h ≤ length h
    pub is : (newer older : List Noted) → Numbered (newer ++ older)
        → nat_lt (length older) (mark (newer ++ older)) ≡ test newer

  module _ (known : Known heading) (mark : List Noted → ℕ) (test : List Noted → Bool) (marks : Marks mark test)
      (cover : Cover) (t : ℕ) where
    -- one more note, of this event: where it stands at the position, whether it reaches and covers, whether some TLBI
    -- waited before it, and what that is marked by
    one : (q : ℕ) (k : Bool) (n : Noted) (newer older : List Noted) (e : Event) (here reached : Bool)
        → here ≡ (t == n.position)
        → reached ≡ (reaches heading n.event p && same_cover (n.covers place) cover)
        → (here ≡ true → waits_at heading place p q k cover t (newer ++ older) ≡ false)
        → (waits_at heading place p q k cover t (newer ++ older)
        && nat_lt (length older) (mark_at t (λ n before. mark before) (newer ++ older)))
        ≡ waits event_of q k (flush_at cover t test) newer
        → nat_lt (length older) (mark (newer ++ older)) ≡ test newer
        → (cond here ((issues q e && is_tlbi k e) && reached)
        (not (answers_for q k e) && waits_at heading place p q k cover t (newer ++ older))
        && nat_lt (length older) (cond here (mark (newer ++ older))
        (mark_at t (λ n before. mark before) (newer ++ older))))
        ≡ waits_after event_of q k (flush_at cover t test) e n newer
    one q k n newer older (Tlbi pe op xt) here reached at is none before marked =
        tlbi_case here (pe == q) (is_tlbi k (Tlbi pe op xt)) reached
        (waits_at heading place p q k cover t (newer ++ older))
        (length older) (mark (newer ++ older)) (mark_at t (λ n before. mark before) (newer ++ older)) (test newer)
        (waits event_of q k (flush_at cover t test) newer) none before marked
        ∙ ap (λ (r : Bool). (pe == q && (is_tlbi k (Tlbi pe op xt) && (r && (here && test newer))))
        || waits event_of q k (flush_at cover t test) newer) is
        ∙ ap (λ (h : Bool). (pe == q && (is_tlbi k (Tlbi pe op xt)
        && ((reaches heading n.event p && same_cover (n.covers place) cover) && (h && test newer))))
        || waits event_of q k (flush_at cover t test) newer) at
    one q k n newer older (Dsb pe dsb) here reached at is none before marked =
        dsb_case here (pe == q && answers dsb k) (waits_at heading place p q k cover t (newer ++ older))
        (length older) (mark (newer ++ older)) (mark_at t (λ n before. mark before) (newer ++ older))
        (waits event_of q k (flush_at cover t test) newer) none before
    one q k n newer older _ here reached at is none before marked =
        dsb_case here false (waits_at heading place p q k cover t (newer ++ older))
        (length older) (mark (newer ++ older)) (mark_at t (λ n before. mark before) (newer ++ older))
        (waits event_of q k (flush_at cover t test) newer) none before

    pub waits_is : (q : ℕ) (k : Bool) (newer older : List Noted) → Numbered (newer ++ older)
        → (waits_at heading place p q k cover t (newer ++ older)
        && nat_lt (length older) (mark_at t (λ n before. mark before) (newer ++ older)))
        ≡ waits event_of q k (flush_at cover t test) newer
    waits_is q k [] older numbered =
        and_right (waits_at heading place p q k cover t older)
        (nat_lt (length older) (mark_at t (λ n before. mark before) older))
        (le-ltb (length older) (mark_at t (λ n before. mark before) older)
        (mark_within t (λ n before. mark before) (λ n h. marks.within h) older))
    waits_is q k (n ∷ newer) older numbered =
        one q k n newer older n.event (t == suc (length (newer ++ older)))
        (reaches heading n.event p && same_cover (n.covers place) cover)
        (ap (λ (i : ℕ). t == i) (sym numbered.0)) refl
        (λ k. let e = eqb-true t (suc (length (newer ++ older))) k in
        waits_none q _ cover t (newer ++ older) (omega arith))
        (waits_is q k newer older numbered.1) (marks.is newer older numbered.1)
        ∙ sym (known.pattern_steps.waits q k (flush_at cover t test) n newer)

    -- a barrier that answers it
    pub flush_is : (q : ℕ) (dsb : Barrier) (newer older : List Noted) → Numbered (newer ++ older)
        → nat_lt (length older) (flush_mark heading place p cover t mark (Dsb q dsb) (newer ++ older))
        ≡ answered_by dsb (λ k. waits event_of q k (flush_at cover t test) newer)
    flush_is q dsb newer older numbered =
        let w : Bool → Bool = λ k. waits_at heading place p q k cover t (newer ++ older) in
        let m : Bool = nat_lt (length older) (mark_at t (λ n before. mark before) (newer ++ older)) in
        lt_cond (answered_by dsb w) (length older) (mark_at t (λ n before. mark before) (newer ++ older))
        ∙ and_or (answers dsb true) (w true) (answers dsb false) (w false) m
        ∙ ap (λ (b : Bool). (answers dsb true && b) || (answers dsb false && (w false && m)))
        (waits_is q true newer older numbered)
        ∙ ap (λ (b : Bool). (answers dsb true && waits event_of q true (flush_at cover t test) newer)
        || (answers dsb false && b))
        (waits_is q false newer older numbered)

    pub flush_within : (e : Event) (h : List Noted) → flush_mark heading place p cover t mark e h ≤ length h
    flush_within (Dsb q dsb) h =
        cond_both (answered_by dsb (λ k. waits_at heading place p q k cover t h))
        (mark_at t (λ n before. mark before) h) 0
        (λ x. x ≤ length h) (λ e. mark_within t (λ n before. mark before) (λ n h. marks.within h) h) (λ e. zero-le)
    flush_within _ h = zero-le

  -- ---- seen, and half

  pub seen_marks : (b : ℕ) → Marks (seen_mark heading place p b) (seen_by heading place p b)
  seen_marks b = record { within = seen_within b; is = seen_is b }

  module _ (known : Known heading) (b t d : ℕ) where
    half_within : (h : List Noted) → half_mark heading place p b t d h ≤ length h
    half_within h =
        mark_within d (λ n before. flush_mark heading place p Half t (seen_mark heading place p b) n.event before)
        (λ n before. flush_within known (seen_mark heading place p b) (seen_by heading place p b)
        (seen_marks b) Half t n.event before) h

    one_half : (e : Event) (n : Noted) (newer older : List Noted) → Numbered (n ∷ (newer ++ older))
        → nat_lt (length older) (half_mark heading place p b t d (newer ++ older)) ≡ half_by heading place p b t d newer
        → nat_lt (length older) (cond (d == suc (length (newer ++ older)))
        (flush_mark heading place p Half t (seen_mark heading place p b) e (newer ++ older))
        (half_mark heading place p b t d (newer ++ older)))
        ≡ half_by_after heading place p b t d n.position e newer
    one_half (Dsb q dsb) n newer older numbered before =
        lt_at (d == suc (length (newer ++ older))) (length older)
        (flush_mark heading place p Half t (seen_mark heading place p b) (Dsb q dsb) (newer ++ older))
        (half_mark heading place p b t d (newer ++ older))
        (answered_by dsb (λ k. waits event_of q k (half_at heading place p b t) newer))
        (half_by heading place p b t d newer)
        (flush_is known (seen_mark heading place p b) (seen_by heading place p b)
        (seen_marks b) Half t q dsb newer older numbered.1)
        before (λ k. let e = eqb-true d (suc (length (newer ++ older))) k in
        mark_none d (λ n before. flush_mark heading place p Half t (seen_mark heading place p b) n.event before)
        (newer ++ older) (omega arith))
        ∙ ap (λ (x : Bool). x || half_by heading place p b t d newer)
        (and_comm (answered_by dsb (λ k. waits event_of q k (half_at heading place p b t) newer))
        (d == suc (length (newer ++ older))))
        ∙ ap (λ (i : ℕ). (d == i && answered_by dsb (λ k. waits event_of q k (half_at heading place p b t) newer))
        || half_by heading place p b t d newer) (sym numbered.0)
    one_half _ n newer older numbered before =
        lt_at (d == suc (length (newer ++ older))) (length older) 0 (half_mark heading place p b t d (newer ++ older))
        false (half_by heading place p b t d newer) (none_below (length older)) before
        (λ k. let e = eqb-true d (suc (length (newer ++ older))) k in
        mark_none d (λ n before. flush_mark heading place p Half t (seen_mark heading place p b) n.event before)
        (newer ++ older) (omega arith))

    half_is : (newer older : List Noted) → Numbered (newer ++ older)
        → nat_lt (length older) (half_mark heading place p b t d (newer ++ older)) ≡ half_by heading place p b t d newer
    half_is [] older numbered = le-ltb (length older) (half_mark heading place p b t d older) (half_within older)
    half_is (n ∷ newer) older numbered =
        one_half n.event n newer older numbered (half_is newer older numbered.1)
        ∙ sym (known.claim_steps.half place p b t d n newer)

    pub half_marks : Marks (half_mark heading place p b t d) (half_by heading place p b t d)
    half_marks = record { within = half_within; is = half_is }
