-- What one more event does to the masks and the pendings of a broken place.
use Rattle.bbm_rules.proofs.Common.{◌≡◌, ℕ, ◌<◌, Bool, true, false, cond, not, ◌&&◌, ◌||◌, ◌==◌, nat_eq, List, ◌∷◌}
use Rattle.bbm_rules.proofs.Common.{is_some, refl, sym, ◌∙◌, ap, inl, inr, true≢false, and_parts, eq-eqb, eqb-true}
use Rattle.bbm_rules.proofs.Common.{or_cases, proved, If, Is, answers, is_non, same_flag, PeMask, operation, Cover}
use Rattle.bbm_rules.proofs.Common.{Half, Second, Full, Patterns, cleansed, flushes, half, same_cover, seen, writes}
use Rattle.bbm_rules.proofs.Common.{Noted, reaches, publishes_to, subst, arith}
use Rattle.std.proofs.Math.Bool.{and-false, and-true, and_assoc}
use Rattle.bbm_barriers.specs.Options.{publishes}
use Rattle.bbm_barriers.specs.declared.Dsb.{Dsb as Barrier}
use Rattle.bbm_regimes.specs.PeMask.{pe_in}
use Rattle.bbm_tlbi_scope.specs.declared.entry.Cover.TheVariants.{None as NoCover}
use Rattle.bbm_tlbi_scope.specs.declared.op.TlbiOp.{TlbiOp}
use Rattle.bbm_entry_state.specs.Answered.{answered_at}
use Rattle.bbm_entry_state.specs.EntryCalls.{Completed, Noted as Issues, clean_after, counts_at}
use Rattle.bbm_entry_state.specs.Points.{clean_at, core_in, half_at, is_broken, seen_at, waits as waits_at, writer_at}
use Rattle.bbm_entry_state.specs.EntryStanding.{IsIdle}
use Rattle.bbm_entry_state.specs.declared.pending.Pends.{Pends}
use Rattle.bbm_entry_state.specs.declared.state.EntryState.{EntryState}
use Rattle.bbm_entry_state.specs.declared.state.EntryState.TheVariants.{Clean, Live, Broken}
use Rattle.bbm_events.specs.Heading.{Heading}
use Rattle.bbm_events.specs.declared.event.Event.{Event}
use Rattle.bbm_events.specs.declared.event.Event.TheVariants.{Dsb, Tlbi}
use Rattle.bbm_rules.specs.Notes.{event_of}
use Rattle.bbm_histories.specs.HistorySteps.{answered_by, cleansed_after, full_waits, half_after, half_waits}
use Rattle.bbm_histories.specs.HistorySteps.{second_waits, seen_after, waits_after, wrote}
use Rattle.bbm_replay_entries.specs.EntryEvents.{Heard, OthersStay, OthersWait}
use Rattle.bbm_replay_entries.specs.KnownOfEntries.{Known}
use Rattle.bbm_replay_entries.specs.Marked.{Marked, cover_waits}
use Rattle.bbm_replay_entries.proofs.Since.{Untouched, answered_seen, counted, counts, cover_counted, untouched}
use Rattle.bbm_histories.proofs.SeenFirst.{seen_on}
use Rattle.bbm_lemmas.proofs.Bools.{or_nothing}
use Rattle.bbm_lemmas.proofs.Numbers.{same_swapped}

-- ---- the points of a state that isn't broken

blank : (state : EntryState) (p : ℕ) → is_broken state ≡ false → (writer_at state p ≡ false) × (seen_at state p ≡ false)
    × (half_at state p ≡ false) × (clean_at state p ≡ false)
blank Clean p b = (refl, refl, refl, refl)
blank (Live core) p b = (refl, refl, refl, refl)
blank (Broken marks) p b = absurd (true≢false b)

-- ---- a DSB published

-- the state between the two calls that take in a DSB
pub record Middle (heading : Heading) (old : EntryState) (q : ℕ) (dsb : Barrier) (mid : EntryState) : Type 0 where
  pub core : core_in mid ≡ core_in old
  pub broken : is_broken mid ≡ is_broken old
  pub writers : (p : ℕ) → writer_at mid p ≡ writer_at old p
  pub seen : (p : ℕ) → seen_at mid p ≡ ((publishes_to heading dsb q p && writer_at old q) || seen_at old p)
  pub half : (p : ℕ) → half_at mid p ≡ half_at old p
  pub clean : (p : ℕ) → clean_at mid p ≡ clean_at old p

pub middle : (heading : Heading) (old : EntryState) (q : ℕ) (dsb : Barrier) (mid : EntryState) → Heard heading old q dsb mid → Middle heading old q dsb mid
middle heading old q dsb mid heard = by (heading.cnp && is_non dsb.domain) refl
  where
    by : (t : Bool) → (heading.cnp && is_non dsb.domain) ≡ t → Middle heading old q dsb mid
    by false t = let r = heard.published t in record {
      core = r.core;
      broken = r.broken;
      writers = r.writers;
      seen = λ p. cc (r.seen p, t, and-true (publishes dsb q heading.pes p));
      half = r.half;
      clean = r.clean;
    }
    by true t = subst (Middle heading old q dsb) (sym (heard.unheard t)) (record {
      core = refl;
      broken = refl;
      writers = λ p. refl;
      seen = λ p. cc (t, and-false (publishes dsb q heading.pes p));
      half = λ p. refl;
      clean = λ p. refl;
    })

-- ---- tests

-- whether the event is neither a DSB nor a TLBI
abbrev pub is_still : Event → Bool
is_still (Dsb q dsb) = false
is_still (Tlbi q op xt) = false
is_still e = true

same_cover_back : (c d : Cover) → same_cover c d ≡ same_cover d c
same_cover_back c d = grind arith

-- what was so before, and what is so now where the PE has seen it
add_seen : (x s a : Bool) → (a ≡ true → s ≡ true) → (x || (s && a)) ≡ (a || x)
add_seen = proved 3 (λ x s a. If (If (Is a true) (Is s true)) (Is (x || (s && a)) (a || x))) refl

left_bits : (ends w : Bool) → (true && (not ends && w)) ≡ cond (true && ends) false w
left_bits = proved 2 (λ ends w. Is (true && (not ends && w)) (cond (true && ends) false w)) refl

pub both_written : (p pe place : ℕ) (w : Bool) → (nat_eq p pe || w) ≡ ((pe == p && place == place) || w)
both_written p pe place w = cc (same_swapped p pe, eq-eqb place place refl, and-true (pe == p))

-- nothing waits where the place isn't broken
counts_nowhere : (state : EntryState) (c : Cover) (p : ℕ) → is_broken state ≡ false → counts_at state c p ≡ false
counts_nowhere state c p t = grind arith

pub issued_idle : (state : EntryState) (q : ℕ) (reach : PeMask) (broadcast : Bool) (cover : Cover) (pends pends' : ℕ → Pends) → is_broken state ≡ false
    → Issues state (pends q) reach broadcast cover (pends' q) → OthersWait q pends pends' → ((i : ℕ) → IsIdle (pends i)) → (i : ℕ) → IsIdle (pends' i)
issued_idle state q reach broadcast cover pends pends' unbroken issues others idle i b c p = by (nat_eq i q) refl
  where
    by : (t : Bool) → nat_eq i q ≡ t → waits_at (pends' i) b c p ≡ false
    by false t = others i t b c p ∙ idle i b c p
    by true t = cc (
      eqb-true i q t,
      issues b c p,
      counts_nowhere state c p unbroken,
      and-false (same_cover c cover),
      or_nothing (same_flag broadcast b) (pe_in reach p) (waits_at (pends q) b c p),
      idle q b c p,
    )

module _ (heading : Heading) (k : Known heading) (place : ℕ) where
  -- ---- an unbroken state and nothing that waits, where nothing was written

  pub marked_blank : (since : List Noted) (state : EntryState) (pends : ℕ → Pends) → is_broken state ≡ false
      → ((q : ℕ) → IsIdle (pends q)) → ((p q : ℕ) → wrote heading place p q since ≡ false) → Marked heading place since state pends
  marked_blank since state pends unbroken idle none =
      let u : (p : ℕ) → Untouched heading k place p since = λ p. untouched heading k place p since (none p) in
      record {
        writers = λ p. (blank state p unbroken).0 ∙ sym (none p p);
        seen = λ p. (blank state p unbroken).1 ∙ sym (u p).unseen;
        half = λ p below. (blank state p unbroken).2 ∙ sym (u p).unhalf;
        clean = λ p below. (blank state p unbroken).3 ∙ sym (u p).uncleansed;
        waiting = λ p below q b c. idle q b c p ∙ sym ((u p).idle q b c);
      }

  -- ---- what waits after an event

  counted_step : (p q : ℕ) (b : Bool) (c : Cover) (n : Noted) (since : List Noted) → cover_waits heading place p q b c (n ∷ since)
      ≡ waits_after event_of q b (flushes heading place p c (counts heading place p c)) n.event n since
  counted_step p q b c n since =
      cover_counted heading place p q b c (n ∷ since)
      ∙ k.pattern_steps.waits q b (flushes heading place p c (counts heading place p c)) n since

  -- ---- an event that is neither a DSB nor a TLBI

  pub marked_still : (n : Noted) (since : List Noted) (old new : EntryState) (pends pends' : ℕ → Pends) → is_still n.event ≡ true
      → Marked heading place since old pends
      → ((p : ℕ) → writer_at new p ≡ (writes p place n.event || writer_at old p))
      → ((p : ℕ) → seen_at new p ≡ seen_at old p) → ((p : ℕ) → half_at new p ≡ half_at old p) → ((p : ℕ) → clean_at new p ≡ clean_at old p)
      → ((q : ℕ) (b : Bool) (c : Cover) (p : ℕ) → waits_at (pends' q) b c p ≡ waits_at (pends q) b c p)
      → Marked heading place (n ∷ since) new pends'
  marked_still n since old new pends pends' still m writers seen_same half_same clean_same waits_same = record {
    writers = λ p. writers p ∙ ap (λ (b : Bool). writes p place n.event || b) (m.writers p);
    seen = λ p. seen_same p ∙ m.seen p ∙ sym (k.pattern_steps.seen place p n since ∙ (by p n.event still).0);
    half = λ p below. cc (half_same p, m.half p below, k.pattern_steps.half place p n since, (by p n.event still).1);
    clean = λ p below. cc (clean_same p, m.clean p below, k.pattern_steps.cleansed place p n since, (by p n.event still).2);
    waiting = λ p below q b c. waits_same q b c p ∙ m.waiting p below q b c
        ∙ (cover_counted heading place p q b c since ∙ sym (counted_step p q b c n since ∙ (by p n.event still).3 q b c));
  }
    where
      by : (p : ℕ) (e : Event) → is_still e ≡ true → (seen_after heading place p e since ≡ seen heading place p since)
          × (half_after heading place p e since ≡ half heading place p since)
          × (cleansed_after heading place p e since ≡ cleansed heading Patterns place p since)
          × ((q : ℕ) (b : Bool) (c : Cover) → waits_after event_of q b (flushes heading place p c (counts heading place p c)) e n since
          ≡ counted heading place p q b c since)
      by p (Dsb q dsb) t = absurd (true≢false (sym t))
      by p (Tlbi pe op xt) t = absurd (true≢false (sym t))
      by p e t = (refl, refl, refl, λ q b c. refl)

  -- ---- a TLBI

  counts_now : (state : EntryState) (p : ℕ) (c : Cover) (since : List Noted) → is_broken state ≡ true → seen_at state p ≡ seen heading place p since
      → half_at state p ≡ half heading place p since → counts_at state c p ≡ counts heading place p c since
  counts_now state p c since b s h = grind arith

  module _ (n : Noted) (since : List Noted) (q : ℕ) (op : TlbiOp) (xt : ℕ) (is : n.event ≡ Tlbi q op xt) where
    -- what waits after the TLBI, by what waited before
    abbrev told : ℕ → ℕ → Bool → Cover → Bool → Bool
    told p i b c before = (q == i && (same_flag (operation op).broadcast b && (reaches heading (Tlbi q op xt) p
        && (same_cover (n.covers place) c && counts heading place p c since)))) || before

    tlbi_waits : (p i : ℕ) (b : Bool) (c : Cover) → cover_waits heading place p i b c (n ∷ since)
        ≡ told p i b c (cover_waits heading place p i b c since)
    tlbi_waits p i b c = cc (
      counted_step p i b c n since,
      is,
      cover_counted heading place p i b c since,
      and_assoc (reaches heading (Tlbi q op xt) p) (same_cover (n.covers place) c) (counts heading place p c since),
    )

    tlbi_marks : (state : EntryState) (pends pends' : ℕ → Pends) → Marked heading place since state pends
        → ((p : ℕ) → p < heading.pes → (i : ℕ) (b : Bool) (c : Cover)
        → waits_at (pends' i) b c p ≡ told p i b c (waits_at (pends i) b c p))
        → Marked heading place (n ∷ since) state pends'
    tlbi_marks state pends pends' m now = record {
      writers = λ p. cc (m.writers p, is);
      seen = λ p. cc (m.seen p, k.pattern_steps.seen place p n since, is);
      half = λ p below. cc (m.half p below, k.pattern_steps.half place p n since, is);
      clean = λ p below. cc (m.clean p below, k.pattern_steps.cleansed place p n since, is);
      waiting = λ p below i b c. cc (now p below i b c, m.waiting p below i b c, tlbi_waits p i b c);
    }

    pub marked_tlbi : (reach : PeMask) (state : EntryState) (pends pends' : ℕ → Pends) → is_broken state ≡ true
        → ((p : ℕ) → p < heading.pes → pe_in reach p ≡ reaches heading (Tlbi q op xt) p)
        → Issues state (pends q) reach (operation op).broadcast (n.covers place) (pends' q) → OthersWait q pends pends'
        → Marked heading place since state pends → Marked heading place (n ∷ since) state pends'
    marked_tlbi reach state pends pends' broken reached issues others m =
        tlbi_marks state pends pends' m (λ p below i b c. by p below b c i (nat_eq i q) refl)
      where
        by : (p : ℕ) → p < heading.pes → (b : Bool) (c : Cover) (i : ℕ) (t : Bool) → nat_eq i q ≡ t
            → waits_at (pends' i) b c p ≡ told p i b c (waits_at (pends i) b c p)
        by p below b c i false t = cc (others i t b c p, same_swapped q i, t)
        by p below b c i true t = cc (
          eqb-true i q t,
          issues b c p,
          reached p below,
          same_cover_back c (n.covers place),
          counts_now state p c since broken (m.seen p) (m.half p below),
        )

    -- a TLBI that reaches no PE, or doesn't cover the place
    pub marked_unreached : (state : EntryState) (pends : ℕ → Pends) → ((p : ℕ) → p < heading.pes → reaches heading (Tlbi q op xt) p ≡ false)
        → Marked heading place since state pends → Marked heading place (n ∷ since) state pends
    marked_unreached state pends unreached m = tlbi_marks state pends pends m (λ p below i b c.
        cc (unreached p below, or_nothing (q == i) (same_flag (operation op).broadcast b) (waits_at (pends i) b c p)))

    uncovered : (c : Cover) (p : ℕ) → (same_cover NoCover c && counts heading place p c since) ≡ false
    uncovered c p = grind arith

    pub marked_uncovered : (state : EntryState) (pends : ℕ → Pends) → n.covers place ≡ NoCover
        → Marked heading place since state pends → Marked heading place (n ∷ since) state pends
    marked_uncovered state pends none m = tlbi_marks state pends pends m (λ p below i b c.
        cc (
          none,
          uncovered c p,
          and-false (reaches heading (Tlbi q op xt) p),
          or_nothing (q == i) (same_flag (operation op).broadcast b) (waits_at (pends i) b c p),
        ))

  -- ---- a DSB

  module _ (n : Noted) (since : List Noted) (q : ℕ) (dsb : Barrier) (is : n.event ≡ Dsb q dsb) (old mid : EntryState) (pends : ℕ → Pends)
      (mids : Middle heading old q dsb mid) (m : Marked heading place since old pends) where
    seen_now : (p : ℕ) → seen_at mid p ≡ seen heading place p (n ∷ since)
    seen_now p = cc (mids.seen p, m.writers q, m.seen p, k.pattern_steps.seen place p n since, is)

    answered_now : (p : ℕ) → p < heading.pes → (c : Cover) → answered_at (pends q) dsb c p ≡ answered_by dsb (λ b. cover_waits heading place p q b c since)
    answered_now p below c = cc (m.waiting p below q true c, m.waiting p below q false c)

    half_now : (p : ℕ) → p < heading.pes → (half_at mid p || (seen_at mid p && answered_at (pends q) dsb Half p)) ≡ half heading place p (n ∷ since)
    half_now p below = cc (
      mids.half p,
      m.half p below,
      seen_now p,
      answered_now p below Half,
      add_seen (half heading place p since) (seen heading place p (n ∷ since)) (answered_by dsb (λ b. half_waits heading place p q b since))
          (λ a. seen_on heading k.pattern_steps place p n since (answered_seen heading k place p q dsb Half since a)),
      k.pattern_steps.half place p n since,
      is,
    )

    pub clean_now : (p : ℕ) → p < heading.pes → clean_after mid (pends q) dsb p ≡ cleansed heading Patterns place p (n ∷ since)
    clean_now p below = cc (
      mids.clean p,
      m.clean p below,
      seen_now p,
      answered_now p below Full,
      answered_now p below Second,
      add_seen (cleansed heading Patterns place p since) (seen heading place p (n ∷ since))
          (answered_by dsb (λ b. full_waits heading place p q b since) || answered_by dsb (λ b. second_waits heading place p q b since))
          (λ a. seen_on heading k.pattern_steps place p n since (elim (or_cases (answered_by dsb (λ b. full_waits heading place p q b since))
          (answered_by dsb (λ b. second_waits heading place p q b since)) a) [
            | inl full ↦ answered_seen heading k place p q dsb Full since full
            | inr second ↦ answered_seen heading k place p q dsb Second since second
          ])),
      k.pattern_steps.cleansed place p n since,
      is,
    )

    -- what waits after the DSB
    dsb_waits : (p i : ℕ) (b : Bool) (c : Cover) → cover_waits heading place p i b c (n ∷ since)
        ≡ cond (q == i && answers dsb b) false (cover_waits heading place p i b c since)
    dsb_waits p i b c = cc (counted_step p i b c n since, is, cover_counted heading place p i b c since)

    pub marked_dsb : (new : EntryState) (pends' : ℕ → Pends) → is_broken new ≡ true → Completed mid (pends q) dsb heading.pes new (pends' q)
        → OthersStay new q pends pends' → Marked heading place (n ∷ since) new pends'
    marked_dsb new pends' broken d others =
        let some : is_some (core_in new) ≡ true = (and_parts (is_some (core_in new)) (is_broken mid) (sym d.broken ∙ broken)).0 in
        record {
          writers = λ p. cc (d.writers p, some, mids.writers p, m.writers p, is);
          seen = λ p. cc (d.seen p, some, seen_now p);
          half = λ p below. cc (d.half p, some, half_now p below);
          clean = λ p below. cc (d.clean p, some, clean_now p below);
          waiting = λ p below i b c. by some p below b c i (nat_eq i q) refl ∙ sym (dsb_waits p i b c);
        }
      where
        by : is_some (core_in new) ≡ true → (p : ℕ) → p < heading.pes → (b : Bool) (c : Cover) (i : ℕ) (t : Bool) → nat_eq i q ≡ t
            → waits_at (pends' i) b c p ≡ cond (q == i && answers dsb b) false (cover_waits heading place p i b c since)
        by some p below b c i false t = cc (others i t b c p, broken, m.waiting p below i b c, same_swapped q i, t)
        by some p below b c i true t = cc (
          eqb-true i q t,
          t,
          d.waiting b c p,
          some,
          m.waiting p below q b c,
          left_bits (answers dsb b) (waits_at (pends q) b c p),
        )
