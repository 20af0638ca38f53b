-- Where no write of a place is seen after its last valid write, nothing is half, cleansed or waits.
use Rattle.bbm_rules.proofs.Common.{◌≡◌, ℕ, ◌&&◌, Bool, true, false, ◌==◌, List, [], ◌∷◌, ◌++◌, refl, sym, ◌∙◌, ap}
use Rattle.bbm_rules.proofs.Common.{true≢false, inl, inr, and_right, eqb-true, false_from_ne_true, or_from, or_parts}
use Rattle.bbm_rules.proofs.Common.{answers, Cover, Half, Second, Full, Heading, Event, Write, Dsb, Tlbi, Trust}
use Rattle.bbm_rules.proofs.Common.{cleansed, flushes, half, same_cover, seen, writes, Noted, Cleansed, Flush, Issued}
use Rattle.bbm_rules.proofs.Common.{reaches, publishes_to}
use Rattle.std.proofs.Math.Bool.{and-false}
use Rattle.bbm_rules.specs.Notes.{event_of}
use Rattle.bbm_rules.specs.PatternSentences.{IsHalf}
use Rattle.bbm_histories.specs.HistorySteps.{full_waits, half_waits, is_tlbi, second_waits, seen_after, waits}
use Rattle.bbm_histories.specs.HistorySteps.{waits_after, wrote}
use Rattle.bbm_alike.specs.Alike.{SamePatterns}
use Rattle.bbm_alike.specs.KnownOfHistories.{Known}
use Rattle.bbm_lemmas.proofs.Bools.{neither}

-- ---- places that weren't written

not_writing : (q place : ℕ) (e : Event) → ((pe value : ℕ) → e ≡ Write pe place value → ⊥) → writes q place e ≡ false
not_writing q place (Write pe at value) none = by (at == place) refl
  where
    by : (c : Bool) → (at == place) ≡ c → (pe == q && c) ≡ false
    by true c = absurd (none pe value (ap (λ (a : ℕ). Write pe a value) (eqb-true at place c)))
    by false c = and-false (pe == q)
not_writing q place e none = refl

pub unwritten : (heading : Heading) (place p q : ℕ) (since : List Noted)
    → ((pe value : ℕ) (n : Noted) (after before : List Noted) → since ≡ after ++ n ∷ before → n.event ≡ Write pe place value → ⊥)
    → wrote heading place p q since ≡ false
unwritten heading place p q [] none = refl
unwritten heading place p q (n ∷ since) none =
    or_from (writes q place n.event) (wrote heading place p q since)
    (not_writing q place n.event (λ pe value is. none pe value n [] since refl is))
    (unwritten heading place p q since
    (λ pe value m after before split. none pe value m (n ∷ after) before (ap (λ (x : List Noted). n ∷ x) split)))

module _ (heading : Heading) (k : Known heading) where
  -- ---- no TLBI waits that passes a test, where none of those issued passes it

  module _ (q : ℕ) (b : Bool) (test : Issued Noted → Bool) where
    abbrev Fails : List Noted → Type 0
    Fails since = (n : Noted) (after before : List Noted) → since ≡ after ++ n ∷ before
        → test (record { tlbi = n; before = before }) ≡ false

    none_after : (e : Event) (n : Noted) (since : List Noted) → test (record { tlbi = n; before = since }) ≡ false
        → waits event_of q b test since ≡ false → waits_after event_of q b test e n since ≡ false
    none_after (Tlbi pe op xt) n since here rest =
        or_from (pe == q && (is_tlbi b (Tlbi pe op xt) && test (record { tlbi = n; before = since }))) (waits event_of q b test since)
        (and_right (pe == q) (is_tlbi b (Tlbi pe op xt) && test (record { tlbi = n; before = since }))
        (and_right (is_tlbi b (Tlbi pe op xt)) (test (record { tlbi = n; before = since })) here)) rest
    none_after (Dsb pe dsb) n since here rest = neither (pe == q && answers dsb b) (waits event_of q b test since) rest
    none_after e n since here rest = rest

    pub no_waits : (since : List Noted) → Fails since → waits event_of q b test since ≡ false
    no_waits [] none = refl
    no_waits (n ∷ since) none =
        k.pattern_steps.waits q b test n since
        ∙ none_after n.event n since (none n [] since refl)
        (no_waits since (λ m after before split. none m (n ∷ after) before (ap (λ (x : List Noted). n ∷ x) split)))

  module _ (place p : ℕ) where
    -- ---- what isn't seen wasn't seen before

    seen_less : (n : Noted) (since : List Noted) → seen heading place p (n ∷ since) ≡ false → seen heading place p since ≡ false
    seen_less n since unseen = by n.event (sym (k.pattern_steps.seen place p n since) ∙ unseen)
      where
        by : (e : Event) → seen_after heading place p e since ≡ false → seen heading place p since ≡ false
        by (Dsb q dsb) none = (or_parts (publishes_to heading dsb q p && wrote heading place p q since) (seen heading place p since) none).1
        by e none = none

    seen_never : (after since : List Noted) → seen heading place p (after ++ since) ≡ false → seen heading place p since ≡ false
    seen_never [] since unseen = unseen
    seen_never (n ∷ after) since unseen = seen_never after since (seen_less n (after ++ since) unseen)

    pub unseen_before : (since after before : List Noted) (n : Noted) → since ≡ after ++ n ∷ before
        → seen heading place p since ≡ false → seen heading place p before ≡ false
    unseen_before since after before n split unseen =
        seen_less n before (seen_never after (n ∷ before) (ap (λ (x : List Noted). seen heading place p x) (sym split) ∙ unseen))

    unflushed : (cover : Cover) (since : List Noted) (t : Issued Noted) (d : Noted) → Flush heading cover place p since t d
        → seen heading place p since ≡ false → seen heading place p t.before ≡ false
    unflushed cover since t d f unseen =
        unseen_before f.answer.older f.answer.is_open.newer t.before t.tlbi f.answer.is_open.split
        (unseen_before since f.answer.newer f.answer.older d f.answer.split unseen)

    pub half_none : (since : List Noted) → seen heading place p since ≡ false → half heading place p since ≡ false
    half_none since unseen = false_from_ne_true (half heading place p since)
        (λ c. impossible (k.half.sound place p since c))
      where
        impossible : IsHalf heading place p since → ⊥
        impossible (b, t, d, by) =
            true≢false (sym (k.seen.complete place p t.before (b, by.published))
            ∙ unflushed Half since t d by.flush unseen)

    pub cleansed_none : (trust : Trust) (since : List Noted) → seen heading place p since ≡ false
        → cleansed heading trust place p since ≡ false
    cleansed_none trust since unseen =
        false_from_ne_true (cleansed heading trust place p since)
        (λ c. impossible ((k.cleansed trust).sound place p since c))
      where
        impossible : Cleansed heading trust place p since → ⊥
        impossible (inl o) =
            true≢false (sym (k.seen.complete place p o.t.before (o.b, o.published))
            ∙ unflushed Full since o.t o.d o.flush unseen)
        impossible (inr t) =
            true≢false (sym (k.half.complete place p t.t2.before (t.b, t.t1, t.d1, t.first))
            ∙ half_none t.t2.before (unflushed Second since t.t2 t.d2 t.second unseen))

    -- ---- waits

    no_flush : (cover : Cover) (test : List Noted → Bool) (n : Noted) (before : List Noted) → test before ≡ false
        → flushes heading place p cover test (record { tlbi = n; before = before }) ≡ false
    no_flush cover test n before none =
        and_right (reaches heading n.event p && same_cover (n.covers place) cover) (test before) none

    pub half_waits_none : (q : ℕ) (b : Bool) (since : List Noted) → seen heading place p since ≡ false
        → half_waits heading place p q b since ≡ false
    half_waits_none q b since unseen =
        no_waits q b (flushes heading place p Half (seen heading place p)) since
        (λ n after before split. no_flush Half (seen heading place p) n before (unseen_before since after before n split unseen))

    pub full_waits_none : (q : ℕ) (b : Bool) (since : List Noted) → seen heading place p since ≡ false
        → full_waits heading place p q b since ≡ false
    full_waits_none q b since unseen =
        no_waits q b (flushes heading place p Full (seen heading place p)) since
        (λ n after before split. no_flush Full (seen heading place p) n before (unseen_before since after before n split unseen))

    pub second_waits_none : (q : ℕ) (b : Bool) (since : List Noted) → seen heading place p since ≡ false
        → second_waits heading place p q b since ≡ false
    second_waits_none q b since unseen =
        no_waits q b (flushes heading place p Second (half heading place p)) since
        (λ n after before split. no_flush Second (half heading place p) n before
        (half_none before (unseen_before since after before n split unseen)))

  -- ---- two quiet histories of a place are alike

  pub quiet_alike : (place : ℕ) (one other : Trust) (since since' : List Noted)
      → ((p q : ℕ) → wrote heading place p q since ≡ false) → ((p q : ℕ) → wrote heading place p q since' ≡ false)
      → ((p : ℕ) → seen heading place p since ≡ false) → ((p : ℕ) → seen heading place p since' ≡ false)
      → SamePatterns heading place one other since since'
  quiet_alike place one other since since' w w' s s' = record {
    writers = λ p q. w p q ∙ sym (w' p q);
    seen_alike = λ p below. s p ∙ sym (s' p);
    half_alike = λ p below. half_none place p since (s p) ∙ sym (half_none place p since' (s' p));
    cleansed_alike = λ p below. cleansed_none place p one since (s p) ∙ sym (cleansed_none place p other since' (s' p));
    full_wait = λ p q b below none. full_waits_none place p q b since (s p) ∙ sym (full_waits_none place p q b since' (s' p));
    half_wait = λ p q b below none. half_waits_none place p q b since (s p) ∙ sym (half_waits_none place p q b since' (s' p));
    second_wait = λ p q b below none. second_waits_none place p q b since (s p) ∙ sym (second_waits_none place p q b since' (s' p));
  }
