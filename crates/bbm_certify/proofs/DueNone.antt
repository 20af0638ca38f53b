-- No claim is due at an event that is no DSB.
use Rattle.bbm_certify.proofs.Common.{Kind, Known, IsCleansed, IsDue, AreDue}
use Rattle.bbm_rules.proofs.Common.{◌≡◌, ◌⊎◌, ℕ, Bool, true, false, not, ◌&&◌, ◌==◌, cond, List, [], ◌∷◌, Option, Some}
use Rattle.bbm_rules.proofs.Common.{None, refl, sym, ◌∙◌, ap, inl, inr, true≢false, keeps, is_valid, Claim, Place, Two}
use Rattle.bbm_rules.proofs.Common.{Taken, Patterns, cleansed, note, noted, proved, If, Is, ◌||◌, contains_none}
use Rattle.bbm_rules.proofs.Common.{ValidWrite, last_valid, last_valid_after, later, Noted, page_of, Barrier, Heading}
use Rattle.bbm_rules.proofs.Common.{Event, Init, Write, Dsb, Tag, kept_at, loses, reads, none-some}
use Rattle.bbm_histories.specs.HistorySteps.{cleansed_after}
use Rattle.bbm_certify.proofs.DuePlaces.{Was, was}
use Rattle.bbm_histories.proofs.SeenFirst.{cleansed_seen}

-- the last valid write after an event is by the event, or it was before it
write_after : (kind : Kind) (level a : ℕ) (e : Event) (n : Noted) (found : Option ValidWrite) (w : ValidWrite)
    → last_valid_after kind level a e n found ≡ Some w → (w.since ≡ []) ⊎ Was n found w
write_after kind level a (Write pe at value) n found w k = by (at == a && is_valid kind level value) k
  where
    by : (b : Bool) → cond b (Some (record { value = value; since = [] })) (later n found) ≡ Some w
        → (w.since ≡ []) ⊎ Was n found w
    by true e =
        let same : w ≡ record { value = value; since = [] } = cc in inl (ap (λ (u : ValidWrite). u.since) same)
    by false e = inr (was n found w e)
write_after kind level a (Init pe page) n found w k = by (page == page_of a) k
  where
    by : (b : Bool) → cond b None (later n found) ≡ Some w → (w.since ≡ []) ⊎ Was n found w
    by true e = absurd (none-some w e)
    by false e = inr (was n found w e)
write_after kind level a e n found w k = inr (was n found w k)

module _ (heading : Heading) (known : Known heading) (h : List Event) (e : Event)
    (other : (q : ℕ) (dsb : Barrier) → e ≡ Dsb q dsb → ⊥) (kept : keeps heading Patterns (e ∷ h) ≡ true) where
  abbrev before : List Noted
  before = noted heading Patterns h

  abbrev newest : Noted
  newest = note heading Patterns before e

  abbrev after : List Noted
  after = noted heading Patterns (e ∷ h)

  -- an event that is no DSB cleanses nothing and takes no tag away
  same_cleansed : (place p : ℕ) (since : List Noted) (x : Event) → ((q : ℕ) (dsb : Barrier) → x ≡ Dsb q dsb → ⊥)
      → cleansed_after heading place p x since ≡ cleansed heading Patterns place p since
  same_cleansed place p since (Dsb q dsb) differs = absurd (differs q dsb refl)
  same_cleansed place p since x differs = refl

  none_lost : (p : ℕ) (tag : Tag) (x : Event) → ((q : ℕ) (dsb : Barrier) → x ≡ Dsb q dsb → ⊥)
      → loses heading Patterns p tag x h ≡ false
  none_lost p tag (Dsb q dsb) differs = absurd (differs q dsb refl)
  none_lost p tag x differs = refl

  -- a tag that was kept still is
  still_kept : (p root : ℕ) (tag : Tag) → kept_at heading Patterns p root tag h ≡ true
      → kept_at heading Patterns p root tag (e ∷ h) ≡ true
  still_kept p root tag held =
      proved 3 (λ r b l. If (Is b true) (If (Is l false) (Is (r || (b && not l)) true))) refl (reads heading (e ∷ h) p tag root)
      (kept_at heading Patterns p root tag h) (loses heading Patterns p tag e h) held (none_lost p tag e other)

  -- a place that is cleansed was cleansed
  was_cleansed : (a p : ℕ) (w : ValidWrite) → IsCleansed heading after a p w
      → ((v : ValidWrite) → IsCleansed heading before a p v → ⊥) → ⊥
  was_cleansed a p w k not_yet = elim (known.one_position.gained h e kept k.node k.in_tree) [
    | inr new ↦ true≢false (sym (cleansed_seen heading known.pattern_steps a p w.since k.is_clean)
        ∙ (known.fresh_content.attached h e known.proper.some_pe kept k.node a new.0 k.inside).unseen w p k.is_last)
    | inl there ↦
        elim (write_after k.node.kind k.node.level a e newest (last_valid k.node.kind k.node.level a before) w k.is_last) [
          | inl none ↦ true≢false (sym k.is_clean ∙ ap (λ (ns : List Noted). cleansed heading Patterns a p ns) none)
          | inr x ↦ not_yet x.before (record {
            node = k.node;
            in_tree = there;
            inside = k.inside;
            is_last = x.is;
            is_clean = sym (same_cleansed a p x.before.since e other)
                ∙ (sym (known.pattern_steps.cleansed a p newest x.before.since)
                ∙ (ap (λ (ns : List Noted). cleansed heading Patterns a p ns) x.since_is ∙ k.is_clean));
          })
        ]
  ]

  pub none_due : (c : Claim) → IsDue heading h e c → ⊥
  none_due (Place p a b t d) k = was_cleansed a p k.1.0 k.1.1 k.2
  none_due (Two p a b t1 d1 t2 d2) k = was_cleansed a p k.1.0 k.1.1 k.2
  none_due (Taken p tag t d) k = k.2 (k.1.0, still_kept p k.1.0 tag k.1.1)

  pub none_at : AreDue heading h e []
  none_at = record { sorted = tt; sound = λ c i. absurd (contains_none c i); complete = λ c k. absurd (none_due c k) }
