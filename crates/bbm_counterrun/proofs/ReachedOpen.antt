-- A PE that reached a leaf just before it was told of a break stands open to it.
use Rattle.bbm_counterrun.proofs.Common.{append_assoc, Patterns, Entry, is_stage2}
use Rattle.bbm_rules.proofs.Common.{◌≡◌, ℕ, ◌≤◌, arith, true, false, ◌&&◌, List, [], ◌∷◌, ◌++◌, length, refl, sym, ◌∙◌}
use Rattle.bbm_rules.proofs.Common.{ap, subst, inl, inr, true≢false, and_from, and_parts, or_left}
use Rattle.bbm_rules.proofs.Common.{seen, noted, Noted, events_of, Heading, Event, Dsb, holds_tag}
use Rattle.bbm_rules.proofs.SearchLemmas.{some_finds}
use Rattle.bbm_rules.specs.Cleansing.{publishes_write}
use Rattle.bbm_histories.proofs.Induction.{Between, between_splits, events_append, none_split}
use Rattle.bbm_tlb_machine.specs.KnownOfMachine.{Known}
use Rattle.bbm_tlb_machine.specs.Step.{takes}
use Rattle.bbm_counterrun.specs.StandsOpen.{IsToldNext, Reached, StandsOpen, takes_walk}

module _ (heading : Heading) (place p : ℕ) where
  -- what takes a walk publishes nothing
  not_both : (e : Event) (before : List Event) (x : Entry) (between : List Noted) → takes_walk heading e before x ≡ true
      → publishes_write heading place p e between ≡ true → ⊥
  not_both (Dsb q dsb) before x between t b = true≢false (sym (and_parts (is_stage2 x.kind) false t).1)
  not_both e before x between t b = true≢false (sym b)

  -- the one item of a split at the end
  same_end : (after later : List Noted) (t b : Noted) → after ++ t ∷ [] ≡ later ++ b ∷ [] → t ≡ b
  same_end after later t b e =
      let one : length (b ∷ []) ≤ length (t ∷ []) = omega arith in
      let c : Between after (t ∷ []) later (b ∷ []) = between_splits after (t ∷ []) later (b ∷ []) e one in
      by c.between c.end
    where
      by : (more : List Noted) → t ∷ [] ≡ more ++ b ∷ [] → t ≡ b
      by [] k = cc
      by (z ∷ more) k = let rest : [] ≡ more ++ b ∷ [] = cc in absurd (none_split more [] b rest)

  told_by : (after before later between : List Noted) (t b : Noted) (older : List Event) (x : Entry) → after ++ t ∷ before ≡ later ++ b ∷ []
      → takes_walk heading t.event older x ≡ true → publishes_write heading place p b.event between ≡ true
      → seen heading place p (before ++ between) ≡ true
  told_by after [] later between t b older x e takes publishes =
      let same : t ≡ b = same_end after later t b e in
      absurd (not_both t.event older x between takes
      (subst (λ (n : Noted). publishes_write heading place p n.event between ≡ true) (sym same) publishes))
  told_by after (z ∷ before) later between t b older x e takes publishes =
      let one : length (b ∷ []) ≤ length (z ∷ before) = omega arith in
      let c : Between (after ++ t ∷ []) (z ∷ before) later (b ∷ [])
      = between_splits (after ++ t ∷ []) (z ∷ before) later (b ∷ []) (append_assoc after (t ∷ []) (z ∷ before) ∙ e) one in
      some_finds (λ n older. publishes_write heading place p n.event older && true) ((z ∷ before) ++ between) (record {
        newer = c.between;
        item = b;
        older = between;
        split = ap (λ (ns : List Noted). ns ++ between) c.end ∙ append_assoc c.between (b ∷ []) between;
        passed = and_from (publishes_write heading place p b.event between) true publishes refl;
      })

pub reached_is_open : (heading : Heading) (k : Known heading Patterns) (h : List Event) (place p : ℕ) → Reached heading h place p
    → StandsOpen heading h place p
reached_is_open heading k h place p r = record {
  walked = r.walked;
  fair = λ t d after before s answer reached takes. record {
    told = told_then t after before s takes r.told_next;
    alone = λ tag holds. r.alone (after ++ t ∷ []) before tag (s ∙ sym (append_assoc after (t ∷ []) before))
        (subst (λ (es : List Event). holds_tag heading Patterns r.walked.walk.root tag es ≡ true) (events_are before) holds);
    ending = or_left _ _ r.leaf;
    for_all = λ upper. or_left _ _ (r.for_all upper);
  };
}
  where
    events_are : (before : List Noted) → events_of (before ++ noted heading Patterns r.walked.older) ≡ events_of before ++ r.walked.older
    events_are before =
        events_append before (noted heading Patterns r.walked.older)
        ∙ ap (λ (es : List Event). events_of before ++ es) (k.notes_keep_the_events r.walked.older)

    told_then : (t : Noted) (after before : List Noted) → r.walked.newer ≡ after ++ t ∷ before
        → takes_walk heading t.event (events_of before ++ r.walked.older) r.walked.walk ≡ true → IsToldNext heading place p r.walked.newer r.walked.between
        → seen heading place p (before ++ r.walked.between) ≡ true
    told_then t after before s takes (inl none) = absurd (none_split after before t (sym none ∙ s))
    told_then t after before s takes (inr b) =
        told_by heading place p after before b.0 r.walked.between t b.1 (events_of before ++ r.walked.older) r.walked.walk (sym s ∙ b.2) takes b.3
