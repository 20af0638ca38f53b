-- An event is idle exactly where the sentence says so.
use Rattle.bbm_idle.proofs.Common.{Phase, Clean, Live, Patterns, answers_needed, is_needed, keeps_phases, same_phase}
use Rattle.bbm_idle.proofs.Common.{wrote_register}
use Rattle.bbm_rules.proofs.Common.{◌≡◌, ℕ, Bool, true, false, cond, not, ◌==◌, List, [], ◌∷◌, ◌++◌, Option, Some, None}
use Rattle.bbm_rules.proofs.Common.{option_and_then, refl, sym, ◌∙◌, ap, subst, true≢false, and_from, and_parts}
use Rattle.bbm_rules.proofs.Common.{eqb-true, false_from_ne_true, not-true, or_cases, or_left, or_right, inl, inr, In}
use Rattle.bbm_rules.proofs.Common.{any_finds, any_found, from_contains, to_contains, among, any, every_pe, noted}
use Rattle.bbm_rules.proofs.Common.{ValidWrite, cleansed_everywhere, last_valid, page_of, Barrier, Heading, Event, Dsb}
use Rattle.bbm_rules.proofs.Common.{Dmb, Isb, Tlbi, Msr, Reg, completes, unanswered, itself, Node, held_at, node_of}
use Rattle.bbm_rules.proofs.Common.{written_places}
use Rattle.bbm_lemmas.proofs.Bools.{not_from}
use Rattle.bbm_lemmas.proofs.Every.{every_at, every_from}
use Rattle.bbm_lemmas.proofs.Words.{among_in, in_among, same_number}
use Rattle.bbm_rules.specs.Phases.{phase_of}
use Rattle.bbm_rules.specs.declared.phase.Phase.TheVariants.{Broken, Seen, Half, Cleansed}
use Rattle.bbm_idle.specs.Idle.{is_idle}
use Rattle.bbm_idle.specs.IdleSentences.{AnswersNeeded, IsIdle, KeepsPhases, WroteRegister}
use Rattle.bbm_idle.specs.KnownOfIdle.{Terms}
use Rattle.bbm_idle.proofs.FindLists.{every_of}
use Rattle.bbm_lemmas.proofs.Elements.{every_in}
use Rattle.bbm_idle.proofs.Needed.{written_at}
use Rattle.bbm_idle.proofs.NeededLaw.{needed_complete, needed_sound}

-- ---- an ISB

module _ (p : ℕ) where
  -- one more event that is no ISB of p
  later : (x : Event) (h : List Event) → (x ≡ Isb p → ⊥) → WroteRegister p h → WroteRegister p (x ∷ h)
  later x h no_isb w = record {
    reg = w.reg;
    value = w.value;
    newer = x ∷ w.newer;
    older = w.older;
    split = ap (λ (es : List Event). x ∷ es) w.split;
    no_isb = none;
  }
    where
      none : (after before : List Event) → x ∷ w.newer ≡ after ++ Isb p ∷ before → ⊥
      none [] before e = let first : x ≡ Isb p = cc in no_isb first
      none (y ∷ after) before e = let rest : w.newer ≡ after ++ Isb p ∷ before = cc in w.no_isb after before rest

  wrote_sound : (h : List Event) → wrote_register p h ≡ true → WroteRegister p h
  wrote_sound [] e = absurd (true≢false (sym e))
  wrote_sound (Msr pe reg value ∷ h) e = elim (or_cases (pe == p) (wrote_register p h) e) [
    | inl here ↦ record {
      reg = reg;
      value = value;
      newer = [];
      older = h;
      split = ap (λ (q : ℕ). Msr q reg value ∷ h) (eqb-true pe p here);
      no_isb = λ after before e. empty after before e;
    }
    | inr before ↦ later (Msr pe reg value) h (λ e. cc) (wrote_sound h before)
  ]
    where
      empty : (after before : List Event) → [] ≡ after ++ Isb p ∷ before → ⊥
      empty [] before e = cc
      empty (y ∷ after) before e = cc
  wrote_sound (Isb pe ∷ h) e = by (wrote_sound h) (pe == p) refl e
    where
      by : (wrote_register p h ≡ true → WroteRegister p h) → (b : Bool) → (pe == p) ≡ b → cond b false (wrote_register p h) ≡ true
          → WroteRegister p (Isb pe ∷ h)
      by older true same e = absurd (true≢false (sym e))
      by older false other e = later (Isb pe) h (λ i. let same : pe ≡ p = cc in
          true≢false (sym (ap (λ (q : ℕ). q == p) same ∙ same_number p) ∙ other)) (older e)
  wrote_sound (x ∷ h) e = later x h (λ i. cc) (wrote_sound h e)

  wrote_behind : (newer older : List Event) (reg : Reg) (value : ℕ) → ((after before : List Event) → newer ≡ after ++ Isb p ∷ before → ⊥)
      → wrote_register p (newer ++ Msr p reg value ∷ older) ≡ true
  wrote_behind [] older reg value none = or_left (p == p) (wrote_register p older) (same_number p)
  wrote_behind (Msr pe r v ∷ newer) older reg value none =
      or_right (pe == p) (wrote_register p (newer ++ Msr p reg value ∷ older)) (wrote_behind newer older reg value
      (λ after before e. none (Msr pe r v ∷ after) before (ap (λ (es : List Event). Msr pe r v ∷ es) e)))
  wrote_behind (Isb pe ∷ newer) older reg value none =
      ap (λ (b : Bool). cond b false (wrote_register p (newer ++ Msr p reg value ∷ older))) other
      ∙ wrote_behind newer older reg value
      (λ after before e. none (Isb pe ∷ after) before (ap (λ (es : List Event). Isb pe ∷ es) e))
    where
      other : (pe == p) ≡ false
      other = false_from_ne_true (pe == p) (λ e. none [] newer (ap (λ (q : ℕ). Isb q ∷ newer) (eqb-true pe p e)))
  wrote_behind (x ∷ newer) older reg value none =
      wrote_behind newer older reg value (λ after before e. none (x ∷ after) before (ap (λ (es : List Event). x ∷ es) e))

  wrote_complete : (h : List Event) → WroteRegister p h → wrote_register p h ≡ true
  wrote_complete h w = ap (wrote_register p) w.split ∙ wrote_behind w.newer w.older w.reg w.value w.no_isb

-- ---- a DSB

same_phases : (one other : Phase) → same_phase one other ≡ true → one ≡ other
same_phases Clean Clean e = refl
same_phases Live Live e = refl
same_phases Broken Broken e = refl
same_phases Seen Seen e = refl
same_phases Half Half e = refl
same_phases Cleansed Cleansed e = refl
same_phases one other e = absurd (true≢false (sym e))

same_itself : (one : Phase) → same_phase one one ≡ true
same_itself Clean = refl
same_itself Live = refl
same_itself Broken = refl
same_itself Seen = refl
same_itself Half = refl
same_itself Cleansed = refl

module _ (heading : Heading) (t : Terms heading) where
  -- a place that was never written is clean
  unwritten_is_clean : (h : List Event) (place p : ℕ) → (In (written_places h) place → ⊥) → phase_of heading Patterns h place p ≡ Clean
  unwritten_is_clean h place p unwritten = by (node_of heading Patterns (noted heading Patterns h) (page_of place)) refl
    where
      empty : (n : Node) (o : Option ValidWrite) → last_valid n.kind n.level place (noted heading Patterns h) ≡ o
          → held_at heading Patterns (noted heading Patterns h) n place ≡ None
      empty n None last = ap (λ (o : Option ValidWrite). option_and_then
          (λ w. cond (cleansed_everywhere heading Patterns place w.since) None (Some w.value)) o) last
      empty n (Some w) last = absurd (unwritten (written_at heading t.notes_keep_the_events h n.kind n.level place w last))

      by : (o : Option Node) → node_of heading Patterns (noted heading Patterns h) (page_of place) ≡ o
          → phase_of heading Patterns h place p ≡ Clean
      by None node = t.phase_parts.outside h place p node
      by (Some n) node = t.phase_parts.empty h place p n node (empty n (last_valid n.kind n.level place (noted heading Patterns h)) refl)

  module _ (h : List Event) (q : ℕ) (dsb : Barrier) where
    abbrev kept_at : ℕ → ℕ → Bool
    kept_at place p = same_phase (phase_of heading Patterns (Dsb q dsb ∷ h) place p) (phase_of heading Patterns h place p)

    kept_sound : keeps_phases heading h (Dsb q dsb) ≡ true → KeepsPhases heading h (Dsb q dsb)
    kept_sound kept place p less = by (among place (written_places h)) refl
      where
        by : (b : Bool) → among place (written_places h) ≡ b
            → phase_of heading Patterns (Dsb q dsb ∷ h) place p ≡ phase_of heading Patterns h place p
        by true there = same_phases (phase_of heading Patterns (Dsb q dsb ∷ h) place p) (phase_of heading Patterns h place p)
            (every_at heading.pes (kept_at place) (every_in (λ place. every_pe heading.pes (kept_at place)) (written_places h) place kept
            (in_among place (written_places h) there)) p less)
        by false out =
            let unwritten : In (written_places h) place → ⊥ = λ i. true≢false (sym (among_in place (written_places h) i) ∙ out) in
            unwritten_is_clean (Dsb q dsb ∷ h) place p unwritten ∙ sym (unwritten_is_clean h place p unwritten)

    kept_complete : KeepsPhases heading h (Dsb q dsb) → keeps_phases heading h (Dsb q dsb) ≡ true
    kept_complete kept = every_of (λ place. every_pe heading.pes (kept_at place)) (written_places h)
        (λ place i. every_from heading.pes (kept_at place) (λ p less.
        subst (λ (x : Phase). same_phase x (phase_of heading Patterns h place p) ≡ true) (sym (kept place p less))
        (same_itself (phase_of heading Patterns h place p))))

    answers_sound : any (answers_needed heading dsb) (unanswered itself q h) ≡ true → AnswersNeeded heading q dsb h
    answers_sound answers =
        let f = any_found (answers_needed heading dsb) (unanswered itself q h) answers in
        let parts = and_parts (completes dsb f.0.tlbi) (is_needed heading f.0.before f.0.tlbi) f.2 in
        record {
          t = f.0;
          is_open = t.answered.sound q h f.0 (to_contains (unanswered itself q h) f.0 f.1);
          completed = parts.0;
          needed = needed_sound heading t f.0.before f.0.tlbi parts.1;
        }

    answers_complete : AnswersNeeded heading q dsb h → any (answers_needed heading dsb) (unanswered itself q h) ≡ true
    answers_complete a =
        any_finds (answers_needed heading dsb) (unanswered itself q h) a.t
        (from_contains (unanswered itself q h) a.t (t.answered.complete q h a.t a.is_open))
        (and_from (completes dsb a.t.tlbi) (is_needed heading a.t.before a.t.tlbi) a.completed
        (needed_complete heading t a.t.before a.t.tlbi a.needed))

  -- ---- an event

  pub idle_sound : (h : List Event) (e : Event) → is_idle heading h e ≡ true → IsIdle heading h e
  unfolding is_idle
  idle_sound h (Dmb pe dsb) idle = tt
  idle_sound h (Isb pe) idle = λ w. true≢false (sym (wrote_complete pe h w) ∙ not-true (wrote_register pe h) idle)
  idle_sound h (Tlbi pe op xt) idle = λ n. true≢false (sym (needed_complete heading t h (Tlbi pe op xt) n)
      ∙ not-true (is_needed heading h (Tlbi pe op xt)) idle)
  idle_sound h (Dsb pe dsb) idle =
      let parts = and_parts (keeps_phases heading h (Dsb pe dsb)) (not (any (answers_needed heading dsb) (unanswered itself pe h))) idle in (
        kept_sound h pe dsb parts.0,
        λ a. true≢false (sym (answers_complete h pe dsb a)
            ∙ not-true (any (answers_needed heading dsb) (unanswered itself pe h)) parts.1),
      )
  idle_sound h e idle = true≢false (sym idle)

  pub idle_complete : (h : List Event) (e : Event) → IsIdle heading h e → is_idle heading h e ≡ true
  unfolding is_idle
  idle_complete h (Dmb pe dsb) idle = refl
  idle_complete h (Isb pe) idle = not_from (wrote_register pe h) (λ e. idle (wrote_sound pe h e))
  idle_complete h (Tlbi pe op xt) idle = not_from (is_needed heading h (Tlbi pe op xt)) (λ e. idle (needed_sound heading t h (Tlbi pe op xt) e))
  idle_complete h (Dsb pe dsb) idle =
      and_from (keeps_phases heading h (Dsb pe dsb)) (not (any (answers_needed heading dsb) (unanswered itself pe h)))
      (kept_complete h pe dsb idle.0)
      (not_from (any (answers_needed heading dsb) (unanswered itself pe h)) (λ e. idle.1 (answers_sound h pe dsb e)))
  idle_complete h e idle = absurd idle
