-- The patterns of a place after one more event, where those before it are alike and it covers the place as far.
use Rattle.bbm_rules.proofs.Common.{◌≡◌, ℕ, ◌<◌, ◌&&◌, ◌||◌, Bool, true, false, cond, ◌==◌, List, ◌∷◌, refl, sym, ◌∙◌}
use Rattle.bbm_rules.proofs.Common.{ap, or_parts, or_right, answers, Cover, Half, Second, Full, Barrier, Heading, Event}
use Rattle.bbm_rules.proofs.Common.{Dsb, Tlbi, Trust, cleansed, flushes, full_step, half, same_cover, second_step, seen}
use Rattle.bbm_rules.proofs.Common.{writes, Noted, reaches, publishes_to}
use Rattle.bbm_rules.specs.Notes.{event_of}
use Rattle.bbm_histories.specs.ClaimSteps.{cleansed_under}
use Rattle.bbm_histories.specs.HistorySteps.{answered_by, half_after, half_waits, is_tlbi, seen_after, waits}
use Rattle.bbm_histories.specs.HistorySteps.{waits_after, wrote}
use Rattle.bbm_alike.specs.Alike.{SamePatterns}
use Rattle.bbm_alike.specs.KnownOfHistories.{Known}

-- what a DSB answers, by what waits
pub answers_alike : (dsb : Barrier) (waiting waiting' : Bool → Bool) → ((b : Bool) → waiting b ≡ waiting' b)
    → answered_by dsb waiting ≡ answered_by dsb waiting'
answers_alike dsb waiting waiting' same =
    ap (λ (x : Bool). (answers dsb true && x) || (answers dsb false && waiting false)) (same true)
    ∙ ap (λ (x : Bool). (answers dsb true && waiting' true) || (answers dsb false && x)) (same false)

module _ (heading : Heading) (k : Known heading) where
  -- what was cleansed stays so, and what was half
  pub cleansed_before : (trust : Trust) (place p : ℕ) (n : Noted) (since : List Noted)
      → cleansed heading trust place p (n ∷ since) ≡ false → cleansed heading trust place p since ≡ false
  cleansed_before trust place p n since none = by n.event (sym ((k.claim_steps trust).cleansed place p n since) ∙ none)
    where
      by : (e : Event) → cleansed_under heading place p trust n.position e since ≡ false → cleansed heading trust place p since ≡ false
      by (Dsb q dsb) c =
          (or_parts (answered_by dsb (λ b. waits event_of q b (full_step heading trust place p n.position) since)
          || answered_by dsb (λ b. waits event_of q b (second_step heading trust place p n.position) since))
          (cleansed heading trust place p since) c).1
      by e c = c

  pub half_before : (place p : ℕ) (n : Noted) (since : List Noted) → half heading place p (n ∷ since) ≡ false
      → half heading place p since ≡ false
  half_before place p n since none = by n.event (sym (k.pattern_steps.half place p n since) ∙ none)
    where
      by : (e : Event) → half_after heading place p e since ≡ false → half heading place p since ≡ false
      by (Dsb q dsb) c =
          (or_parts (answered_by dsb (λ b. half_waits heading place p q b since)) (half heading place p since) c).1
      by e c = c

  module _ (one other : Trust) (place : ℕ) (since since' : List Noted) (s : SamePatterns heading place one other since since')
      (e : Event) (covers covers' tops tops' : ℕ → Cover) (position position' : ℕ) (same : covers place ≡ covers' place) where
    abbrev next : Noted
    next = record { event = e; covers = covers; tops = tops; position = position }

    abbrev next' : Noted
    next' = record { event = e; covers = covers'; tops = tops'; position = position' }

    writers_after : (p q : ℕ) → wrote heading place p q (next ∷ since) ≡ wrote heading place p q (next' ∷ since')
    writers_after p q = ap (λ (b : Bool). writes q place e || b) (s.writers p q)

    seen_alike_after : (p : ℕ) → p < heading.pes → seen heading place p (next ∷ since) ≡ seen heading place p (next' ∷ since')
    seen_alike_after p below = k.pattern_steps.seen place p next since
        ∙ (by e ∙ sym (k.pattern_steps.seen place p next' since'))
      where
        by : (f : Event) → seen_after heading place p f since ≡ seen_after heading place p f since'
        by (Dsb q dsb) =
            ap (λ (b : Bool). (publishes_to heading dsb q p && b) || seen heading place p since) (s.writers p q)
            ∙ ap (λ (b : Bool). (publishes_to heading dsb q p && wrote heading place p q since') || b) (s.seen_alike p below)
        by f = s.seen_alike p below

    half_alike_after : (p : ℕ) → p < heading.pes → half heading place p (next ∷ since) ≡ half heading place p (next' ∷ since')
    half_alike_after p below = k.pattern_steps.half place p next since
        ∙ (by e ∙ sym (k.pattern_steps.half place p next' since'))
      where
        dsb_by : (q : ℕ) (dsb : Barrier) (c : Bool) → half heading place p since ≡ c
            → half_after heading place p (Dsb q dsb) since ≡ half_after heading place p (Dsb q dsb) since'
        dsb_by q dsb true is =
            or_right (answered_by dsb (λ b. half_waits heading place p q b since)) (half heading place p since) is
            ∙ sym (or_right (answered_by dsb (λ b. half_waits heading place p q b since')) (half heading place p since')
            (sym (s.half_alike p below) ∙ is))
        dsb_by q dsb false is =
            ap (λ (x : Bool). x || half heading place p since)
            (answers_alike dsb (λ b. half_waits heading place p q b since) (λ b. half_waits heading place p q b since')
            (λ b. s.half_wait p q b below is))
            ∙ ap (λ (x : Bool). answered_by dsb (λ b. half_waits heading place p q b since') || x) (s.half_alike p below)

        by : (f : Event) → half_after heading place p f since ≡ half_after heading place p f since'
        by (Dsb q dsb) = dsb_by q dsb (half heading place p since) refl
        by f = s.half_alike p below

    -- what waits for an answer, by a test of what came before
    waits_alike : (p q : ℕ) (b : Bool) (cover : Cover) (test : List Noted → Bool) → test since ≡ test since'
        → waits event_of q b (flushes heading place p cover test) since ≡ waits event_of q b (flushes heading place p cover test) since'
        → waits event_of q b (flushes heading place p cover test) (next ∷ since)
        ≡ waits event_of q b (flushes heading place p cover test) (next' ∷ since')
    waits_alike p q b cover test tested waiting =
        k.pattern_steps.waits q b (flushes heading place p cover test) next since
        ∙ (by e ∙ sym (k.pattern_steps.waits q b (flushes heading place p cover test) next' since'))
      where
        flushed : flushes heading place p cover test (record { tlbi = next; before = since })
            ≡ flushes heading place p cover test (record { tlbi = next'; before = since' })
        flushed =
            ap (λ (c : Cover). reaches heading e p && same_cover c cover && test since) same
            ∙ ap (λ (x : Bool). reaches heading e p && same_cover (covers' place) cover && x) tested

        by : (f : Event) → waits_after event_of q b (flushes heading place p cover test) f next since
            ≡ waits_after event_of q b (flushes heading place p cover test) f next' since'
        by (Tlbi pe op xt) =
            ap (λ (x : Bool). (pe == q && (is_tlbi b (Tlbi pe op xt) && x))
            || waits event_of q b (flushes heading place p cover test) since) flushed
            ∙ ap (λ (x : Bool). (pe == q && (is_tlbi b (Tlbi pe op xt)
            && flushes heading place p cover test (record { tlbi = next'; before = since' }))) || x) waiting
        by (Dsb pe dsb) = ap (λ (x : Bool). cond (pe == q && answers dsb b) false x) waiting
        by f = waiting

    pub patterns_step : ((p : ℕ) → p < heading.pes
        → cleansed heading one place p (next ∷ since) ≡ cleansed heading other place p (next' ∷ since'))
        → SamePatterns heading place one other (next ∷ since) (next' ∷ since')
    patterns_step cleanses = record {
      writers = writers_after;
      seen_alike = seen_alike_after;
      half_alike = half_alike_after;
      cleansed_alike = cleanses;
      full_wait = λ p q b below none. waits_alike p q b Full (seen heading place p) (s.seen_alike p below)
          (s.full_wait p q b below (cleansed_before one place p next since none));
      half_wait = λ p q b below none. waits_alike p q b Half (seen heading place p) (s.seen_alike p below)
          (s.half_wait p q b below (half_before place p next since none));
      second_wait = λ p q b below none. waits_alike p q b Second (half heading place p) (s.half_alike p below)
          (s.second_wait p q b below (cleansed_before one place p next since none));
    }
