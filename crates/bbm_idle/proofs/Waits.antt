-- What is seen, half and cleansed, and what waits and still counts, after an event that is idle.
use Rattle.bbm_idle.proofs.Common.{Patterns, answered_by, half_after, half_waits, is_tlbi, SamePatterns, adds, adds_to}
use Rattle.bbm_idle.proofs.Common.{Known}
use Rattle.bbm_rules.proofs.Common.{◌≡◌, ℕ, ◌<◌, Bool, true, false, cond, not, ◌&&◌, ◌||◌, ◌==◌, List, ◌∷◌, map, refl, sym}
use Rattle.bbm_rules.proofs.Common.{◌∙◌, ap, true≢false, and_parts, eqb-true, false_from_ne_true, or_parts, proved, If}
use Rattle.bbm_rules.proofs.Common.{Is, answers, Cover, Half, Second, Full, Barrier, Heading, Event, Dsb, Dmb, Isb}
use Rattle.bbm_rules.proofs.Common.{Tlbi, TlbiOp, cleansed, flushes, half, same_cover, seen, writes, Noted, Issued}
use Rattle.bbm_rules.proofs.Common.{reaches}
use Rattle.bbm_rules.specs.Held.{empties_tables}
use Rattle.bbm_rules.specs.Notes.{event_of, topped}
use Rattle.bbm_histories.specs.HistorySteps.{cleansed_after, full_waits, second_waits, seen_after, waits_after, wrote}
use Rattle.bbm_idle.proofs.Since.{waits_answered}

-- ---- a TLBI that adds nothing covers no place in full, half or for the rest, where that counts

no_full : (r : Bool) (c : Cover) (s h d : Bool) → (r ≡ true → adds c s h d ≡ false) → d ≡ false → ((r && same_cover c Full) && s) ≡ false
no_full false c s h d needless yet = refl
no_full true Full s h d needless yet = proved 2 (λ s d. If (Is d false) (If (Is (s && not d) false) (Is s false)))
    refl s d yet (needless refl)
no_full true c s h d needless yet = refl

no_half : (r : Bool) (c : Cover) (s h d : Bool) → (r ≡ true → adds c s h d ≡ false) → h ≡ false → ((r && same_cover c Half) && s) ≡ false
no_half false c s h d needless yet = refl
no_half true Half s h d needless yet = proved 2 (λ s h. If (Is h false) (If (Is (s && not h) false) (Is s false)))
    refl s h yet (needless refl)
no_half true c s h d needless yet = refl

no_second : (r : Bool) (c : Cover) (s h d : Bool) → (r ≡ true → adds c s h d ≡ false) → d ≡ false → ((r && same_cover c Second) && h) ≡ false
no_second false c s h d needless yet = refl
no_second true Second s h d needless yet = proved 2 (λ h d. If (Is d false) (If (Is (h && not d) false) (Is h false)))
    refl h d yet (needless refl)
no_second true c s h d needless yet = refl

-- what doesn't count adds nothing
pub dropped : (a t x w : Bool) → x ≡ false → ((a && (t && x)) || w) ≡ w
dropped = proved 4 (λ a t x w. If (Is x false) (Is ((a && (t && x)) || w) w)) refl

-- what a DSB would answer, where it answers nothing
pub left_alone : (pe q : ℕ) (b : Bool) (dsb : Barrier) (waiting : ℕ → Bool → Bool) → answered_by dsb (λ c. waiting pe c) ≡ false
    → cond (pe == q && answers dsb b) false (waiting q b) ≡ waiting q b
left_alone pe q b dsb waiting none = by (pe == q && answers dsb b) refl
  where
    by : (c : Bool) → (pe == q && answers dsb b) ≡ c → cond c false (waiting q b) ≡ waiting q b
    by true c =
        let parts = and_parts (pe == q) (answers dsb b) c in
        sym (false_from_ne_true (waiting q b) (λ w. true≢false (sym (waits_answered dsb (λ x. waiting pe x) b parts.1
        (ap (λ (x : ℕ). waiting x b) (eqb-true pe q parts.0) ∙ w)) ∙ none)))
    by false c = refl

-- an event with its notes
abbrev pub item : Event → (ℕ → Cover) → (ℕ → Cover) → ℕ → Noted
item e covers tops position = record { event = e; covers = covers; tops = tops; position = position }

module _ (heading : Heading) (k : Known heading) (place : ℕ) where
  -- The event n changes nothing of what came after the last valid write, but for what waits and doesn't count.
  pub record Changeless (n : Noted) (since : List Noted) : Type 0 where
    pub no_write : (q : ℕ) → writes q place n.event ≡ false
    pub seen_same : (p : ℕ) → p < heading.pes → seen_after heading place p n.event since ≡ seen heading place p since
    pub half_same : (p : ℕ) → p < heading.pes → half_after heading place p n.event since ≡ half heading place p since
    pub cleansed_same : (p : ℕ) → p < heading.pes → cleansed_after heading place p n.event since
        ≡ cleansed heading Patterns place p since
    pub full_same : (p q : ℕ) (b : Bool) → p < heading.pes → cleansed_after heading place p n.event since ≡ false
        → waits_after event_of q b (flushes heading place p Full (seen heading place p)) n.event n since
        ≡ full_waits heading place p q b since
    pub half_open : (p q : ℕ) (b : Bool) → p < heading.pes → half_after heading place p n.event since ≡ false
        → waits_after event_of q b (flushes heading place p Half (seen heading place p)) n.event n since
        ≡ half_waits heading place p q b since
    pub second_same : (p q : ℕ) (b : Bool) → p < heading.pes → cleansed_after heading place p n.event since ≡ false
        → waits_after event_of q b (flushes heading place p Second (half heading place p)) n.event n since
        ≡ second_waits heading place p q b since

  -- by covers the patterns are the same, and from version 5 on by top covers, too
  abbrev pub PatternsAlike : List Noted → List Noted → Type 0
  PatternsAlike since since' = SamePatterns heading place Patterns Patterns since since' × (empties_tables heading.version ≡ true
      → SamePatterns heading place Patterns Patterns (map topped since) (map topped since'))

  pub changeless : (n : Noted) (since : List Noted) → Changeless n since
      → SamePatterns heading place Patterns Patterns (n ∷ since) since
  changeless n since c = record {
    writers = λ p q. ap (λ (x : Bool). x || wrote_before p q) (c.no_write q);
    seen_alike = λ p less. k.pattern_steps.seen place p n since ∙ c.seen_same p less;
    half_alike = λ p less. k.pattern_steps.half place p n since ∙ c.half_same p less;
    cleansed_alike = λ p less. k.pattern_steps.cleansed place p n since ∙ c.cleansed_same p less;
    full_wait = λ p q b less yet. k.pattern_steps.waits q b (flushes heading place p Full (seen heading place p)) n
        since
        ∙ c.full_same p q b less (sym (k.pattern_steps.cleansed place p n since) ∙ yet);
    half_wait = λ p q b less yet. k.pattern_steps.waits q b (flushes heading place p Half (seen heading place p)) n
        since
        ∙ c.half_open p q b less (sym (k.pattern_steps.half place p n since) ∙ yet);
    second_wait = λ p q b less yet. k.pattern_steps.waits q b (flushes heading place p Second (half heading place p)) n
        since
        ∙ c.second_same p q b less (sym (k.pattern_steps.cleansed place p n since) ∙ yet);
  }
    where
      wrote_before : ℕ → ℕ → Bool
      wrote_before p q = wrote heading place p q since

  module _ (covers tops : ℕ → Cover) (position : ℕ) (since : List Noted) where
    pub of_dmb : (pe : ℕ) (dsb : Barrier) → Changeless (item (Dmb pe dsb) covers tops position) since
    of_dmb pe dsb = record {
      no_write = λ q. refl;
      seen_same = λ p less. refl;
      half_same = λ p less. refl;
      cleansed_same = λ p less. refl;
      full_same = λ p q b less yet. refl;
      half_open = λ p q b less yet. refl;
      second_same = λ p q b less yet. refl;
    }

    pub of_isb : (pe : ℕ) → Changeless (item (Isb pe) covers tops position) since
    of_isb pe = record {
      no_write = λ q. refl;
      seen_same = λ p less. refl;
      half_same = λ p less. refl;
      cleansed_same = λ p less. refl;
      full_same = λ p q b less yet. refl;
      half_open = λ p q b less yet. refl;
      second_same = λ p q b less yet. refl;
    }

    -- a TLBI that adds nothing at any PE that it reaches
    pub of_tlbi : (pe : ℕ) (op : TlbiOp) (xt : ℕ) → ((p : ℕ) → p < heading.pes → reaches heading (Tlbi pe op xt) p ≡ true
        → adds_to heading (covers place) p place since ≡ false)
        → Changeless (item (Tlbi pe op xt) covers tops position) since
    of_tlbi pe op xt needless = record {
      no_write = λ q. refl;
      seen_same = λ p less. refl;
      half_same = λ p less. refl;
      cleansed_same = λ p less. refl;
      full_same = λ p q b less yet. dropped (pe == q) (is_tlbi b e) (flushes heading place p Full (seen heading place p) i)
          (full_waits heading place p q b since)
          (no_full (reaches heading e p) (covers place) (seen heading place p since) (half heading place p since)
          (cleansed heading Patterns place p since) (needless p less) yet);
      half_open = λ p q b less yet. dropped (pe == q) (is_tlbi b e) (flushes heading place p Half (seen heading place p) i)
          (half_waits heading place p q b since)
          (no_half (reaches heading e p) (covers place) (seen heading place p since) (half heading place p since)
          (cleansed heading Patterns place p since) (needless p less) yet);
      second_same = λ p q b less yet. dropped (pe == q) (is_tlbi b e) (flushes heading place p Second (half heading place p) i)
          (second_waits heading place p q b since)
          (no_second (reaches heading e p) (covers place) (seen heading place p since) (half heading place p since)
          (cleansed heading Patterns place p since) (needless p less) yet);
    }
      where
        e : Event
        e = Tlbi pe op xt

        i : Issued Noted
        i = record { tlbi = item (Tlbi pe op xt) covers tops position; before = since }

    -- a DSB after which the same is seen, half and cleansed
    pub of_dsb : (pe : ℕ) (dsb : Barrier)
        → ((p : ℕ) → p < heading.pes → seen_after heading place p (Dsb pe dsb) since ≡ seen heading place p since)
        → ((p : ℕ) → p < heading.pes → half_after heading place p (Dsb pe dsb) since ≡ half heading place p since)
        → ((p : ℕ) → p < heading.pes → cleansed_after heading place p (Dsb pe dsb) since ≡ cleansed heading Patterns place p since)
        → Changeless (item (Dsb pe dsb) covers tops position) since
    of_dsb pe dsb seen_same half_same cleansed_same = record {
      no_write = λ q. refl;
      seen_same = seen_same;
      half_same = half_same;
      cleansed_same = cleansed_same;
      full_same = λ p q b less yet. left_alone pe q b dsb (λ x c. full_waits heading place p x c since)
          (or_parts (full p) (second p) (or_parts (full p || second p) (cleansed heading Patterns place p since) yet).0).0;
      half_open = λ p q b less yet. left_alone pe q b dsb (λ x c. half_waits heading place p x c since)
          (or_parts (answered_by dsb (λ c. half_waits heading place p pe c since)) (half heading place p since) yet).0;
      second_same = λ p q b less yet. left_alone pe q b dsb (λ x c. second_waits heading place p x c since)
          (or_parts (full p) (second p) (or_parts (full p || second p) (cleansed heading Patterns place p since) yet).0).1;
    }
      where
        full : ℕ → Bool
        full p = answered_by dsb (λ c. full_waits heading place p pe c since)

        second : ℕ → Bool
        second p = answered_by dsb (λ c. second_waits heading place p pe c since)
