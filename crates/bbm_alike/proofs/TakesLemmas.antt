-- What an event takes away is alike in histories that are alike: where every pattern is trusted, and by any trust where
-- the event is no DSB.
use Rattle.bbm_rules.proofs.Common.{◌≡◌, ℕ, ◌<◌, ◌&&◌, ◌||◌, not, Bool, true, false, List, ◌∷◌, refl, sym, ◌∙◌, ap}
use Rattle.bbm_rules.proofs.Common.{or_right, Barrier, Heading, Event, Dsb, Tag, Trust, Patterns, cleansed, note, noted}
use Rattle.bbm_rules.proofs.Common.{Noted, kept_at, loses, reads_for_some, map}
use Rattle.bbm_rules.specs.Notes.{topped}
use Rattle.bbm_histories.specs.ClaimSteps.{cleansed_under}
use Rattle.bbm_histories.specs.HistorySteps.{answered_by, cleansed_after, full_waits, second_waits, tag_waits}
use Rattle.bbm_alike.specs.Alike.{Alike, SamePatterns, TakesAlike}
use Rattle.bbm_alike.specs.KnownOfHistories.{Known}
use Rattle.bbm_alike.proofs.PatternsStep.{answers_alike}
use Rattle.bbm_alike.proofs.PlainSteps.{registers_step}
use Rattle.bbm_alike.proofs.ReadingsAlike.{reads_some_alike}

module _ (heading : Heading) (k : Known heading) where
  -- ---- by every pattern

  module _ (place p : ℕ) (below : p < heading.pes) (since since' : List Noted)
      (s : SamePatterns heading place Patterns Patterns since since') where
    answered : (q : ℕ) (dsb : Barrier) (c : Bool) → cleansed heading Patterns place p since ≡ c
        → cleansed_after heading place p (Dsb q dsb) since ≡ cleansed_after heading place p (Dsb q dsb) since'
    answered q dsb true is =
        or_right (answered_by dsb (λ b. full_waits heading place p q b since) || answered_by dsb (λ b. second_waits heading place p q b since))
        (cleansed heading Patterns place p since) is
        ∙ sym (or_right (answered_by dsb (λ b. full_waits heading place p q b since')
        || answered_by dsb (λ b. second_waits heading place p q b since'))
        (cleansed heading Patterns place p since') (sym (s.cleansed_alike p below) ∙ is))
    answered q dsb false is =
        ap (λ (x : Bool). (x || answered_by dsb (λ b. second_waits heading place p q b since)) || cleansed heading Patterns place p since)
        (answers_alike dsb (λ b. full_waits heading place p q b since) (λ b. full_waits heading place p q b since')
        (λ b. s.full_wait p q b below is))
        ∙ (ap (λ (x : Bool). (answered_by dsb (λ b. full_waits heading place p q b since') || x) || cleansed heading Patterns place p since)
        (answers_alike dsb (λ b. second_waits heading place p q b since) (λ b. second_waits heading place p q b since')
        (λ b. s.second_wait p q b below is))
        ∙ ap (λ (x : Bool). (answered_by dsb (λ b. full_waits heading place p q b since')
        || answered_by dsb (λ b. second_waits heading place p q b since')) || x) (s.cleansed_alike p below))

    cleansed_by : (e : Event) → cleansed_after heading place p e since ≡ cleansed_after heading place p e since'
    cleansed_by (Dsb q dsb) = answered q dsb (cleansed heading Patterns place p since) refl
    cleansed_by e = s.cleansed_alike p below

  module _ (h h' : List Event) (a : Alike heading Patterns Patterns h h') where
    lost_by : (e : Event) (p root : ℕ) (tag : Tag) → p < heading.pes → kept_at heading Patterns p root tag h ≡ true
        → loses heading Patterns p tag e h ≡ loses heading Patterns p tag e h'
    lost_by (Dsb q dsb) p root tag below holds =
        k.tag_steps.lost p tag q dsb h
        ∙ (ap (λ (x : Bool). x && not (reads_for_some heading (Dsb q dsb ∷ h) p tag))
        (answers_alike dsb (λ b. tag_waits heading p tag q b h) (λ b. tag_waits heading p tag q b h')
        (λ b. a.tag_wait p q root b tag below holds))
        ∙ (ap (λ (x : Bool). answered_by dsb (λ b. tag_waits heading p tag q b h') && not x)
        (reads_some_alike (Dsb q dsb ∷ h) (Dsb q dsb ∷ h') (registers_step h h' (Dsb q dsb) a.registers) a.roots heading p tag)
        ∙ sym (k.tag_steps.lost p tag q dsb h')))
    lost_by e p root tag below holds = refl

    pub takes_patterns : (e : Event) → TakesAlike heading Patterns Patterns h h' e
    takes_patterns e = record {
      cleanses = λ n place p w w' there stays inside some last last' below.
          k.pattern_steps.cleansed place p (note heading Patterns (noted heading Patterns h) e) w.since
          ∙ (cleansed_by place p below w.since w'.since (a.patterns n place w w' there inside some last last') e
          ∙ sym (k.pattern_steps.cleansed place p (note heading Patterns (noted heading Patterns h') e) w'.since));
      tops = λ late n place p w w' there stays inside some last last' below.
          k.pattern_steps.cleansed place p (topped (note heading Patterns (noted heading Patterns h) e)) (map topped w.since)
          ∙ (cleansed_by place p below (map topped w.since) (map topped w'.since) (a.tops late n place w w' there inside some last last') e
          ∙ sym (k.pattern_steps.cleansed place p (topped (note heading Patterns (noted heading Patterns h') e)) (map topped w'.since)));
      takes = lost_by e;
    }

  -- ---- no DSB

  module _ (one other : Trust) (h h' : List Event) (a : Alike heading one other h h') where
    cleansed_still : (trust : Trust) (place p d : ℕ) (e : Event) (since : List Noted) → ((q : ℕ) (dsb : Barrier) → e ≡ Dsb q dsb → ⊥)
        → cleansed_under heading place p trust d e since ≡ cleansed heading trust place p since
    cleansed_still trust place p d (Dsb q dsb) since other = absurd (other q dsb refl)
    cleansed_still trust place p d e since other = refl

    none_lost : (trust : Trust) (p : ℕ) (tag : Tag) (e : Event) (x : List Event) → ((q : ℕ) (dsb : Barrier) → e ≡ Dsb q dsb → ⊥)
        → loses heading trust p tag e x ≡ false
    none_lost trust p tag (Dsb q dsb) x other = absurd (other q dsb refl)
    none_lost trust p tag e x other = refl

    pub takes_nothing : (e : Event) → ((q : ℕ) (dsb : Barrier) → e ≡ Dsb q dsb → ⊥) → TakesAlike heading one other h h' e
    takes_nothing e no_dsb = record {
      cleanses = λ n place p w w' there stays inside some last last' below.
          let s = a.patterns n place w w' there inside some last last' in
          (k.claim_steps one).cleansed place p (note heading one (noted heading one h) e) w.since
          ∙ (cleansed_still one place p (note heading one (noted heading one h) e).position e w.since no_dsb
          ∙ (s.cleansed_alike p below
          ∙ sym ((k.claim_steps other).cleansed place p (note heading other (noted heading other h') e) w'.since
          ∙ cleansed_still other place p (note heading other (noted heading other h') e).position e w'.since no_dsb)));
      tops = λ late n place p w w' there stays inside some last last' below.
          let s = a.tops late n place w w' there inside some last last' in
          (k.claim_steps one).cleansed place p (topped (note heading one (noted heading one h) e)) (map topped w.since)
          ∙ (cleansed_still one place p (note heading one (noted heading one h) e).position e (map topped w.since) no_dsb
          ∙ (s.cleansed_alike p below
          ∙ sym ((k.claim_steps other).cleansed place p (topped (note heading other (noted heading other h') e)) (map topped w'.since)
          ∙ cleansed_still other place p (note heading other (noted heading other h') e).position e (map topped w'.since) no_dsb)));
      takes = λ p root tag below holds. none_lost one p tag e h no_dsb ∙ sym (none_lost other p tag e h' no_dsb);
    }
