-- What is known of the events since the last valid write of a place.
use Rattle.bbm_rules.proofs.Common.{◌≡◌, ℕ, Bool, true, false, ◌&&◌, ◌||◌, ◌==◌, List, [], ◌∷◌, ◌++◌, refl, sym, ◌∙◌}
use Rattle.bbm_rules.proofs.Common.{ap, true≢false, and_parts, eqb-true, false_from_ne_true, or_right, Cover, Half}
use Rattle.bbm_rules.proofs.Common.{Second, Full, Patterns, cleansed, flushes, half, same_cover, seen, writes, Noted}
use Rattle.bbm_rules.proofs.Common.{Issued, reaches, unanswered, publishes_to, is_none_of}
use Rattle.std.proofs.Math.Bool.{and-false}
use Rattle.bbm_barriers.specs.declared.Dsb.{Dsb as Barrier}
use Rattle.bbm_tlbi_scope.specs.declared.entry.Cover.TheVariants.{None as NoCover}
use Rattle.bbm_events.specs.Heading.{Heading}
use Rattle.bbm_events.specs.declared.event.Event.{Event}
use Rattle.bbm_events.specs.declared.event.Event.TheVariants.{Write, Dsb}
use Rattle.bbm_rules.specs.Notes.{event_of}
use Rattle.bbm_histories.specs.HistorySteps.{answered_by, cleansed_after, full_waits, is_tlbi, second_waits, seen_after}
use Rattle.bbm_histories.specs.HistorySteps.{waits, wrote}
use Rattle.bbm_replay_entries.specs.KnownOfEntries.{Known}
use Rattle.bbm_replay_entries.specs.Marked.{cover_waits}
use Rattle.bbm_histories.proofs.SeenFirst.{answered_waits, cleansed_seen, half_seen, waits_seen}

module _ (heading : Heading) (place p : ℕ) where
  -- what a TLBI that covers the place so far has to find before it
  abbrev pub counts : Cover → List Noted → Bool
  counts NoCover since = false
  counts Half since = seen heading place p since
  counts Second since = half heading place p since
  counts Full since = seen heading place p since

  abbrev pub counted : ℕ → Bool → Cover → List Noted → Bool
  counted q b c since = waits event_of q b (flushes heading place p c (counts c)) since

  pub cover_counted : (q : ℕ) (b : Bool) (c : Cover) (since : List Noted) → cover_waits heading place p q b c since ≡ counted q b c since
  cover_counted q b NoCover since =
      sym (is_none_of (λ (t : Issued Noted). is_tlbi b (event_of t.tlbi) && flushes heading place p NoCover (counts NoCover) t) (unanswered event_of q since)
      (λ t i. ap (λ (x : Bool). is_tlbi b (event_of t.tlbi) && x) (and-false (reaches heading t.tlbi.event p && same_cover (t.tlbi.covers place) NoCover))
      ∙ and-false (is_tlbi b (event_of t.tlbi))))
  cover_counted q b Half since = refl
  cover_counted q b Second since = refl
  cover_counted q b Full since = refl

module _ (heading : Heading) (k : Known heading) (place p : ℕ) where
  -- ---- what is answered was seen, and what is cleansed stays so

  pub counts_seen : (c : Cover) (since : List Noted) → counts heading place p c since ≡ true → seen heading place p since ≡ true
  counts_seen NoCover since t = absurd (true≢false (sym t))
  counts_seen Half since t = t
  counts_seen Second since t = half_seen heading k.pattern_steps place p since t
  counts_seen Full since t = t

  counted_seen : (q : ℕ) (b : Bool) (c : Cover) (since : List Noted) → counted heading place p q b c since ≡ true → seen heading place p since ≡ true
  counted_seen q b c since w = waits_seen heading k.pattern_steps place p c (counts heading place p c) q b (counts_seen c) since w

  pub answered_seen : (q : ℕ) (dsb : Barrier) (c : Cover) (since : List Noted)
      → answered_by dsb (λ b. counted heading place p q b c since) ≡ true → seen heading place p since ≡ true
  answered_seen q dsb c since a =
      let w = answered_waits dsb (λ b. counted heading place p q b c since) a in counted_seen q w.0 c since w.2

  pub cleansed_on : (n : Noted) (since : List Noted) → cleansed heading Patterns place p since ≡ true → cleansed heading Patterns place p (n ∷ since) ≡ true
  cleansed_on n since t = k.pattern_steps.cleansed place p n since ∙ by n.event
    where
      by : (e : Event) → cleansed_after heading place p e since ≡ true
      by (Dsb q dsb) = or_right (answered_by dsb (λ b. full_waits heading place p q b since) || answered_by dsb (λ b. second_waits heading place p q b since))
          (cleansed heading Patterns place p since) t
      by e = t

  -- ---- where nothing was written, nothing is seen, half or cleansed, and nothing waits

  unseen : (since : List Noted) → ((q : ℕ) → wrote heading place p q since ≡ false) → seen heading place p since ≡ false
  unseen [] none = refl
  unseen (n ∷ since) none =
      let older : (q : ℕ) → wrote heading place p q since ≡ false
      = λ q. false_from_ne_true (wrote heading place p q since) (λ t.
      true≢false (sym (or_right (writes q place n.event) (wrote heading place p q since) t) ∙ none q)) in
      k.pattern_steps.seen place p n since ∙ by older (unseen since older) n.event
    where
      by : ((q : ℕ) → wrote heading place p q since ≡ false) → seen heading place p since ≡ false
          → (e : Event) → seen_after heading place p e since ≡ false
      by older on (Dsb q dsb) =
          ap (λ (b : Bool). (publishes_to heading dsb q p && b) || seen heading place p since) (older q)
          ∙ (ap (λ (b : Bool). b || seen heading place p since) (and-false (publishes_to heading dsb q p)) ∙ on)
      by older on e = on

  pub record Untouched (since : List Noted) : Type 0 where
    pub unseen : seen heading place p since ≡ false
    pub unhalf : half heading place p since ≡ false
    pub uncleansed : cleansed heading Patterns place p since ≡ false
    pub idle : (q : ℕ) (b : Bool) (c : Cover) → cover_waits heading place p q b c since ≡ false

  pub untouched : (since : List Noted) → ((q : ℕ) → wrote heading place p q since ≡ false) → Untouched since
  untouched since none =
      let not_seen : seen heading place p since ≡ false = unseen since none in
      record {
        unseen = not_seen;
        unhalf = false_from_ne_true (half heading place p since) (λ t. true≢false (sym (half_seen heading k.pattern_steps place p since t) ∙ not_seen));
        uncleansed = false_from_ne_true (cleansed heading Patterns place p since) (λ t. true≢false (sym (cleansed_seen heading k.pattern_steps place p since t) ∙ not_seen));
        idle = λ q b c. cover_counted heading place p q b c since
            ∙ false_from_ne_true (counted heading place p q b c since) (λ t. true≢false (sym (counted_seen q b c since t) ∙ not_seen));
      }

pub unwritten : (heading : Heading) (place p : ℕ) (since : List Noted)
    → ((q v : ℕ) (n : Noted) (after before : List Noted) → since ≡ after ++ n ∷ before → n.event ≡ Write q place v → ⊥)
    → (q : ℕ) → wrote heading place p q since ≡ false
unwritten heading place p [] none q = refl
unwritten heading place p (n ∷ since) none q =
    ap (λ (b : Bool). b || wrote heading place p q since) (by n.event refl)
    ∙ unwritten heading place p since (λ r v m after before i. none r v m (n ∷ after) before (ap (λ (xs : List Noted). n ∷ xs) i)) q
  where
    by : (e : Event) → n.event ≡ e → writes q place e ≡ false
    by (Write pe at value) is = false_from_ne_true (pe == q && at == place) (λ t.
        none pe value n [] since refl (is ∙ ap (λ (x : ℕ). Write pe x value) (eqb-true at place (and_parts (pe == q) (at == place) t).1)))
    by e is = refl
