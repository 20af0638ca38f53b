-- After a DSB that changes no phase and answers no TLBI that was needed, the places of trees hold what they held, with
-- the same patterns.
use Rattle.bbm_idle.proofs.Common.{Phase, Clean, Live, Patterns, Kind, SamePatterns, answers_needed, keeps_phases}
use Rattle.bbm_idle.proofs.Common.{Known, same_phase}
use Rattle.bbm_rules.proofs.Common.{◌≡◌, ℕ, ◌<◌, Bool, true, false, cond, not, List, ◌∷◌, map, Option, Some, None}
use Rattle.bbm_rules.proofs.Common.{option_and_then, is_none, Contains, refl, sym, ◌∙◌, ap, subst, inl, inr, and_parts}
use Rattle.bbm_rules.proofs.Common.{not-true, In, is_valid, every_pe, keeps, cleansed, half, seen, note, noted}
use Rattle.bbm_rules.proofs.Common.{ValidWrite, held, last_valid, any, Noted, broken_phase, page_of, Barrier, Heading}
use Rattle.bbm_rules.proofs.Common.{Event, Write, Dsb, unanswered, itself, Node, held_at, node_of, value_of}
use Rattle.bbm_rules.proofs.Common.{written_places}
use Rattle.bbm_lemmas.proofs.Every.{every_at}
use Rattle.bbm_rules.proofs.Emptied.{seen_topped}
use Rattle.bbm_rules.specs.Broken.{broken}
use Rattle.bbm_rules.specs.Held.{emptied, empties_tables}
use Rattle.bbm_rules.specs.Notes.{topped}
use Rattle.bbm_rules.specs.Phases.{phase_of}
use Rattle.bbm_rules.specs.Tree.{tree}
use Rattle.bbm_alike.proofs.HeldStep.{last_of}
use Rattle.bbm_histories.specs.TreeChanges.{HeldBy, HeldChange}
use Rattle.bbm_histories.specs.TreeSteps.{holds_above, node_where}
use Rattle.bbm_idle.specs.Idle.{is_idle}
use Rattle.bbm_lemmas.proofs.Elements.{every_in}
use Rattle.bbm_idle.proofs.Needed.{cleansed_top_stays, half_stays, half_top_stays, written_at}
use Rattle.bbm_idle.proofs.Phases.{SameMarks, never_clean, same_marks}
use Rattle.bbm_idle.proofs.Since.{Untouched, Unwritten, untouched, unwritten_on}
use Rattle.bbm_idle.proofs.Waits.{PatternsAlike, changeless, of_dsb}

module _ (heading : Heading) where
  -- what holds a value has a last valid write
  pub held_last : (kind : Kind) (level place : ℕ) (h : List Noted) (value : ℕ) → held heading Patterns kind level place h ≡ Some value
      → (w : ValidWrite) × (last_valid kind level place h ≡ Some w) × (w.value ≡ value)
  held_last kind level place h value e =
      last_of heading Patterns (emptied heading Patterns kind level place h) place value (last_valid kind level place h) e

  module _ (k : Known heading) (h : List Event) (pe : ℕ) (dsb : Barrier)
      (kept : keeps heading Patterns (Dsb pe dsb ∷ h) ≡ true) (idle : is_idle heading h (Dsb pe dsb) ≡ true) where
    abbrev before : List Noted
    before = noted heading Patterns h

    abbrev after : List Noted
    after = noted heading Patterns (Dsb pe dsb ∷ h)

    abbrev item : Noted
    item = note heading Patterns (noted heading Patterns h) (Dsb pe dsb)

    kept_before : keeps heading Patterns h ≡ true
    kept_before = (and_parts (keeps heading Patterns h) (is_none (broken heading Patterns h (Dsb pe dsb))) kept).0

    idle_parts : (keeps_phases heading h (Dsb pe dsb) ≡ true) × (not (any (answers_needed heading dsb) (unanswered itself pe h)) ≡ true)
    unfolding is_idle
    idle_parts = and_parts (keeps_phases heading h (Dsb pe dsb)) (not (any (answers_needed heading dsb) (unanswered itself pe h))) idle

    same_phases : (place p : ℕ) → In (written_places h) place → p < heading.pes
        → same_phase (phase_of heading Patterns (Dsb pe dsb ∷ h) place p) (phase_of heading Patterns h place p) ≡ true
    same_phases place p there less =
        every_at heading.pes
        (λ p. same_phase (phase_of heading Patterns (Dsb pe dsb ∷ h) place p) (phase_of heading Patterns h place p))
        (every_in (λ place. every_pe heading.pes
        (λ p. same_phase (phase_of heading Patterns (Dsb pe dsb ∷ h) place p) (phase_of heading Patterns h place p)))
        (written_places h) place idle_parts.0 there) p less

    -- the node of a place of a tree
    node_before : (n : Node) (place : ℕ) → Contains (tree heading Patterns before) n → page_of place ≡ n.page
        → node_of heading Patterns before (page_of place) ≡ Some n
    node_before n place t inside = ap (node_of heading Patterns before) inside ∙ k.one_node.the_first h kept_before n t

    -- ---- what is held

    -- a place that holds nothing any more is clean
    now_clean : (n : Node) (place p : ℕ) → node_of heading Patterns before (page_of place) ≡ Some n
        → held_at heading Patterns after n place ≡ None → phase_of heading Patterns (Dsb pe dsb ∷ h) place p ≡ Clean
    now_clean n place p node none = by (holds_above heading Patterns after n) refl
      where
        then : node_of heading Patterns after (page_of place) ≡ node_where (holds_above heading Patterns after) (Some n)
        then = k.node_step.dsb h pe dsb kept (page_of place) ∙ ap (node_where (holds_above heading Patterns after)) node

        by : (c : Bool) → holds_above heading Patterns after n ≡ c → phase_of heading Patterns (Dsb pe dsb ∷ h) place p ≡ Clean
        by true c = k.phase_parts.empty (Dsb pe dsb ∷ h) place p n (then ∙ ap (λ (x : Bool). cond x (Some n) None) c)
            none
        by false c = k.phase_parts.outside (Dsb pe dsb ∷ h) place p (then ∙ ap (λ (x : Bool). cond x (Some n) None) c)

    not_ended : (n : Node) (place value : ℕ) → Contains (tree heading Patterns before) n → page_of place ≡ n.page
        → held_at heading Patterns before n place ≡ Some value → held_at heading Patterns after n place ≡ None → ⊥
    not_ended n place value t inside holds none =
        let node = node_before n place t inside in
        let last = held_last n.kind n.level place before value holds in
        never_clean (is_valid n.kind n.level (value_of h place)) (cleansed heading Patterns place 0 last.0.since)
        (half heading place 0 last.0.since) (seen heading place 0 last.0.since)
        (subst (λ (x : Phase). same_phase Clean x ≡ true)
        (k.phase_parts.holding h place 0 value n last.0 node holds last.1)
        (subst (λ (x : Phase). same_phase x (phase_of heading Patterns h place 0) ≡ true) (now_clean n place 0 node none)
        (same_phases place 0 (written_at heading k.notes_keep_the_events h n.kind n.level place last.0 last.1) k.proper.some_pe)))

    pub same_held : (n : Node) (place : ℕ) → Contains (tree heading Patterns before) n → page_of place ≡ n.page
        → held_at heading Patterns after n place ≡ held_at heading Patterns before n place
    same_held n place t inside = by (k.held_changes.changes h (Dsb pe dsb) k.proper.some_pe kept n place t inside)
      where
        ends : (o : Option ℕ) → held_at heading Patterns before n place ≡ o → held_at heading Patterns after n place ≡ None
            → held_at heading Patterns after n place ≡ held_at heading Patterns before n place
        ends None o none = none ∙ sym o
        ends (Some value) o none = absurd (not_ended n place value t inside o none)

        by : HeldChange n.kind n.level place (Dsb pe dsb) (held_at heading Patterns before n place) (held_at heading Patterns after n place)
            → held_at heading Patterns after n place ≡ held_at heading Patterns before n place
        by (inl same) = same
        by (inr (inl w)) = let apart : Dsb pe dsb ≡ Write w.0 place w.1 = w.2 in cc
        by (inr (inr d)) = ends (held_at heading Patterns before n place) refl d.3

    pub same_tree : tree heading Patterns after ≡ tree heading Patterns before
    same_tree = sym (k.trees_alike before after refl refl (λ n place t inside. sym (same_held n place t inside)))

    -- ---- patterns

    module _ (n : Node) (place value p : ℕ) (w : ValidWrite) (t : Contains (tree heading Patterns before) n) (inside : page_of place ≡ n.page)
        (holds : held_at heading Patterns before n place ≡ Some value) (last : last_valid n.kind n.level place before ≡ Some w)
        (less : p < heading.pes) where
      last_after : last_valid n.kind n.level place after ≡ Some (record { value = w.value; since = item ∷ w.since })
      last_after = ap (option_and_then (λ (v : ValidWrite). Some (record v { since = item ∷ v.since }))) last

      node_after : node_of heading Patterns after (page_of place) ≡ Some n
      node_after =
          ap (node_of heading Patterns after) inside
          ∙ k.one_node.the_first (Dsb pe dsb ∷ h) kept n (subst (λ (ns : List Node). Contains ns n) (sym same_tree) t)

      phases_alike : same_phase (cond (is_valid n.kind n.level (value_of h place)) Live (broken_phase heading Patterns place p (item ∷ w.since)))
          (cond (is_valid n.kind n.level (value_of h place)) Live (broken_phase heading Patterns place p w.since)) ≡ true
      phases_alike =
          subst (λ (x : Phase). same_phase (cond (is_valid n.kind n.level (value_of h place)) Live (broken_phase heading Patterns place p (item ∷ w.since))) x ≡ true)
          (k.phase_parts.holding h place p value n w (node_before n place t inside) holds last)
          (subst (λ (x : Phase). same_phase x (phase_of heading Patterns h place p) ≡ true)
          (k.phase_parts.holding (Dsb pe dsb ∷ h) place p value n (record { value = w.value; since = item ∷ w.since })
          node_after
          (same_held n place t inside ∙ holds) last_after)
          (same_phases place p (written_at heading k.notes_keep_the_events h n.kind n.level place w last) less))

      -- where the present value is valid, nobody wrote the place since
      live : is_valid n.kind n.level (value_of h place) ≡ true → Unwritten heading k place p w.since
      live valid =
          let v = k.last_valid.live n.kind n.level place before
          (subst (λ (es : List Event). is_valid n.kind n.level (value_of es place) ≡ true)
          (sym (k.notes_keep_the_events h)) valid) in
          let same : Some v.0 ≡ Some w = sym v.1 ∙ last in
          let one : v.0 ≡ w = cc in
          subst (λ (x : ValidWrite). Unwritten heading k place p x.since) one v.3

      marks : SameMarks heading k place p (item ∷ w.since) w.since
      marks = by (is_valid n.kind n.level (value_of h place)) refl phases_alike
        where
          by : (c : Bool) → is_valid n.kind n.level (value_of h place) ≡ c
              → same_phase (cond c Live (broken_phase heading Patterns place p (item ∷ w.since))) (cond c Live (broken_phase heading Patterns place p w.since)) ≡ true
              → SameMarks heading k place p (item ∷ w.since) w.since
          by true c e =
              let none = live c in
              let none_now = unwritten_on heading k place p item w.since
              (λ q v is. let apart : Dsb pe dsb ≡ Write q place v = is in cc) none in
              let now : Untouched heading k place p (item ∷ w.since) = untouched heading k place p (item ∷ w.since) none_now in
              let old : Untouched heading k place p w.since = untouched heading k place p w.since none in
              record {
                seen_same = now.unseen ∙ sym old.unseen;
                half_same = now.unhalf ∙ sym old.unhalf;
                cleansed_same = now.uncleansed ∙ sym old.uncleansed;
              }
          by false c e = same_marks heading k place p (item ∷ w.since) w.since e (λ clean.
              k.pattern_steps.half place p item w.since
              ∙ half_stays heading k h kept_before n place value w (record { in_tree = t; inside = inside; holds = holds; is_last = last })
              p less pe dsb (not-true (any (answers_needed heading dsb) (unanswered itself pe h)) idle_parts.1))

    module _ (n : Node) (place value : ℕ) (w : ValidWrite) (t : Contains (tree heading Patterns before) n) (inside : page_of place ≡ n.page)
        (holds : held_at heading Patterns before n place ≡ Some value) (last : last_valid n.kind n.level place before ≡ Some w) where
      answers_none : any (answers_needed heading dsb) (unanswered itself pe h) ≡ false
      answers_none = not-true (any (answers_needed heading dsb) (unanswered itself pe h)) idle_parts.1

      by : HeldBy heading Patterns before n place value w
      by = record { in_tree = t; inside = inside; holds = holds; is_last = last }

      seen_still : (p : ℕ) → p < heading.pes → seen heading place p (item ∷ w.since) ≡ seen heading place p w.since
      seen_still p less = (marks n place value p w t inside holds last less).seen_same

      same_tops : empties_tables heading.version ≡ true
          → SamePatterns heading place Patterns Patterns (map topped (item ∷ w.since)) (map topped w.since)
      same_tops late =
          changeless heading k place (topped item) (map topped w.since)
          (of_dsb heading k place item.tops item.tops item.position (map topped w.since) pe dsb
          (λ p less. sym (k.pattern_steps.seen place p (topped item) (map topped w.since))
          ∙ (seen_topped heading place p (item ∷ w.since) ∙ (seen_still p less ∙ sym (seen_topped heading place p w.since))))
          (λ p less. half_top_stays heading k h kept_before n place value w by p less pe dsb answers_none late)
          (λ p less. cleansed_top_stays heading k h kept_before n place value w by p less pe dsb answers_none late))

      pub same_patterns : PatternsAlike heading k place (item ∷ w.since) w.since
      same_patterns = (
        changeless heading k place item w.since (of_dsb heading k place item.covers item.tops item.position w.since pe dsb
            (λ p less. sym (k.pattern_steps.seen place p item w.since) ∙ seen_still p less)
            (λ p less. sym (k.pattern_steps.half place p item w.since) ∙ (marks n place value p w t inside holds last less).half_same)
            (λ p less. sym (k.pattern_steps.cleansed place p item w.since)
            ∙ (marks n place value p w t inside holds last less).cleansed_same)),
        same_tops,
      )
