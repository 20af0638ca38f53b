-- Since the last valid write of a place, whatever is half, cleansed or waits was seen, and seen stays.
use Rattle.bbm_rules.proofs.Common.{◌≡◌, ℕ, Bool, true, false, cond, ◌&&◌, ◌||◌, ◌==◌, List, [], ◌∷◌, refl, sym, ◌∙◌}
use Rattle.bbm_rules.proofs.Common.{inl, inr, true≢false, and_parts, or_cases, or_right, proved, If, Is, answers, Cover}
use Rattle.bbm_rules.proofs.Common.{Half, Second, Full, Patterns, cleansed, flushes, half, same_cover, seen, Noted}
use Rattle.bbm_rules.proofs.Common.{Barrier, Heading, Event, Dsb, Tlbi, reaches, publishes_to}
use Rattle.bbm_rules.specs.Notes.{event_of}
use Rattle.bbm_histories.specs.HistorySteps.{answered_by, cleansed_after, full_waits, half_after, half_waits, is_tlbi}
use Rattle.bbm_histories.specs.HistorySteps.{second_waits, seen_after, waits, waits_after, wrote}
use Rattle.bbm_histories.specs.PatternLaws.{PatternsAfter}

-- what a DSB answers waited
pub answered_waits : (dsb : Barrier) (waiting : Bool → Bool) → answered_by dsb waiting ≡ true
    → (b : Bool) × (answers dsb b ≡ true) × (waiting b ≡ true)
answered_waits dsb waiting a =
    elim (or_cases (answers dsb true && waiting true) (answers dsb false && waiting false) a) [
      | inl x ↦ let k = and_parts (answers dsb true) (waiting true) x in (true, k.0, k.1)
      | inr y ↦ let k = and_parts (answers dsb false) (waiting false) y in (false, k.0, k.1)
    ]

module _ (heading : Heading) (steps : PatternsAfter heading) (place p : ℕ) where
  pub seen_on : (n : Noted) (since : List Noted) → seen heading place p since ≡ true
      → seen heading place p (n ∷ since) ≡ true
  seen_on n since s = steps.seen place p n since ∙ by n.event
    where
      by : (e : Event) → seen_after heading place p e since ≡ true
      by (Dsb q dsb) =
          or_right (publishes_to heading dsb q p && wrote heading place p q since) (seen heading place p since) s
      by e = s

  pub waits_seen : (c : Cover) (test : List Noted → Bool) (q : ℕ) (b : Bool)
      → ((before : List Noted) → test before ≡ true → seen heading place p before ≡ true) → (since : List Noted)
      → waits event_of q b (flushes heading place p c test) since ≡ true → seen heading place p since ≡ true
  waits_seen c test q b needs [] w = absurd (true≢false (sym w))
  waits_seen c test q b needs (n ∷ since) w =
      seen_on n since (by (waits_seen c test q b needs since) n.event
      (sym (steps.waits q b (flushes heading place p c test) n since) ∙ w))
    where
      left : (t x : Bool) → cond t false x ≡ true → x ≡ true
      left = proved 2 (λ t x. If (Is (cond t false x) true) (Is x true)) refl

      by : (waits event_of q b (flushes heading place p c test) since ≡ true → seen heading place p since ≡ true)
          → (e : Event) → waits_after event_of q b (flushes heading place p c test) e n since ≡ true
          → seen heading place p since ≡ true
      by on (Tlbi pe op xt) w =
          elim (or_cases
          (pe == q && (is_tlbi b (Tlbi pe op xt) && flushes heading place p c test (record { tlbi = n; before = since })))
          (waits event_of q b (flushes heading place p c test) since) w) [
            | inl here ↦ needs since (and_parts (reaches heading n.event p && same_cover (n.covers place) c) (test since)
                (and_parts (is_tlbi b (Tlbi pe op xt)) (flushes heading place p c test (record { tlbi = n; before = since }))
                (and_parts (pe == q) (is_tlbi b (Tlbi pe op xt)
                && flushes heading place p c test (record { tlbi = n; before = since })) here).1).1).1
            | inr there ↦ on there
          ]
      by on (Dsb pe dsb) w =
          on (left (pe == q && answers dsb b) (waits event_of q b (flushes heading place p c test) since) w)
      by on e w = on w

  pub half_seen : (since : List Noted) → half heading place p since ≡ true → seen heading place p since ≡ true
  half_seen [] t = absurd (true≢false (sym t))
  half_seen (n ∷ since) t =
      seen_on n since (by (half_seen since) n.event (sym (steps.half place p n since) ∙ t))
    where
      by : (half heading place p since ≡ true → seen heading place p since ≡ true)
          → (e : Event) → half_after heading place p e since ≡ true → seen heading place p since ≡ true
      by on (Dsb q dsb) t =
          elim (or_cases (answered_by dsb (λ b. half_waits heading place p q b since)) (half heading place p since) t) [
            | inl a ↦
                let w = answered_waits dsb (λ b. half_waits heading place p q b since) a in
                waits_seen Half (seen heading place p) q w.0 (λ before s. s) since w.2
            | inr older ↦ on older
          ]
      by on e t = on t

  pub cleansed_seen : (since : List Noted) → cleansed heading Patterns place p since ≡ true
      → seen heading place p since ≡ true
  cleansed_seen [] t = absurd (true≢false (sym t))
  cleansed_seen (n ∷ since) t =
      seen_on n since (by (cleansed_seen since) n.event (sym (steps.cleansed place p n since) ∙ t))
    where
      by : (cleansed heading Patterns place p since ≡ true → seen heading place p since ≡ true)
          → (e : Event) → cleansed_after heading place p e since ≡ true → seen heading place p since ≡ true
      by on (Dsb q dsb) t =
          elim (or_cases (answered_by dsb (λ b. full_waits heading place p q b since)
          || answered_by dsb (λ b. second_waits heading place p q b since)) (cleansed heading Patterns place p since) t) [
            | inl a ↦ elim (or_cases (answered_by dsb (λ b. full_waits heading place p q b since))
                (answered_by dsb (λ b. second_waits heading place p q b since)) a) [
                  | inl full ↦
                      let w = answered_waits dsb (λ b. full_waits heading place p q b since) full in
                      waits_seen Full (seen heading place p) q w.0 (λ before s. s) since w.2
                  | inr second ↦
                      let w = answered_waits dsb (λ b. second_waits heading place p q b since) second in
                      waits_seen Second (half heading place p) q w.0 half_seen since w.2
                ]
            | inr older ↦ on older
          ]
      by on e t = on t
