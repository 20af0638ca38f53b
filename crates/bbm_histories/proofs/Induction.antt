-- The induction over a history that keeps the rules.
use Rattle.bbm_histories.proofs.Common.{Heading, Event, Rule, Below}
use Rattle.bbm_rules.specs.declared.rule.Rule.TheVariants.{TableMapped}
use Rattle.bbm_rules.proofs.Common.{◌≡◌, Bool, true, false, List, [], ◌∷◌, ◌++◌, None, is_none, refl, ◌∙◌, ap}
use Rattle.bbm_rules.proofs.Common.{and_from, and_parts, breaks, keeps, Trust, note, noted, Noted, events_of}
use Rattle.bbm_rules.proofs.Common.{length, length-append, suc, sym, true≢false, arith, ◌+◌, ◌≤◌}
use Rattle.bbm_rules.specs.Broken.{broken}

-- every rule but that on table pages, which asks the trees and what they hold, and says nothing of them
abbrev pub is_of_trees : Rule → Bool
is_of_trees TableMapped = false
is_of_trees rule = true

-- an empty list has no item
pub none_split : {A : Type 0} (newer older : List A) (x : A) → [] ≡ newer ++ x ∷ older → ⊥
none_split [] older x s = cc
none_split (y ∷ newer) older x s = cc

module _ (heading : Heading) (trust : Trust) where
  -- the event breaks none of these rules
  abbrev pub Unbroken : List Noted → Event → Type 0
  Unbroken h e = (r : Rule) → is_of_trees r ≡ true → breaks heading trust h e r ≡ None

  pub unbroken : (h : List Noted) (e : Event)
      → ((rule : Rule) → (rule ≡ TableMapped → ⊥) → breaks heading trust h e rule ≡ None) → Unbroken h e
  unbroken h e others rule other = others rule (λ same. true≢false (sym other ∙ ap is_of_trees same))

  pub last_kept : Below heading trust → (h : List Event) (e : Event) → keeps heading trust (e ∷ h) ≡ true
      → (keeps heading trust h ≡ true) × Unbroken (noted heading trust h) e
  last_kept b h e k = (
    (and_parts (keeps heading trust h) (is_none (broken heading trust h e)) k).0,
    λ r other. b.each_rule.sound (e ∷ h) [] h e k refl r,
  )

  -- an event that no rule refuses keeps the rules
  pub kept_next : (h : List Event) (e : Event) → keeps heading trust h ≡ true → broken heading trust h e ≡ None
      → keeps heading trust (e ∷ h) ≡ true
  kept_next h e kept none =
      and_from (keeps heading trust h) (is_none (broken heading trust h e)) kept (ap (λ o. is_none o) none)

  pub kept_before : (newer older : List Event) → keeps heading trust (newer ++ older) ≡ true → keeps heading trust older ≡ true
  kept_before [] older k = k
  kept_before (e ∷ newer) older k =
      kept_before newer older (and_parts (keeps heading trust (newer ++ older)) (is_none (broken heading trust (newer ++ older) e)) k).0

  -- What holds at the start, and after each event that breaks no rule, holds of a history that keeps the rules.
  pub throughout : Below heading trust → (P : List Noted → Type 0) → P []
      → ((h : List Event) (e : Event) → keeps heading trust h ≡ true → Unbroken (noted heading trust h) e
      → P (noted heading trust h) → P (note heading trust (noted heading trust h) e ∷ noted heading trust h))
      → (h : List Event) → keeps heading trust h ≡ true → P (noted heading trust h)
  throughout b P start step [] k = start
  throughout b P start step (e ∷ h) k =
      let parts = last_kept b h e k in step h e parts.0 parts.1 (throughout b P start step h parts.0)

-- ---- splits of a list, of an annotated history and of its events

-- of two splits of one list, that with the longer second part lies before the other
pub record Between {X : Type 0} (newer older first rest : List X) : Type 0 where
  pub between : List X
  pub start : first ≡ newer ++ between
  pub end : older ≡ between ++ rest

pub between_splits : {X : Type 0} (newer older first rest : List X) → newer ++ older ≡ first ++ rest → length rest ≤ length older
    → Between newer older first rest
between_splits [] older first rest e le = record { between = first; start = refl; end = e }
between_splits (n ∷ newer) older [] rest e le =
    let long : length (newer ++ older) ≡ length newer + length older = length-append newer older in
    let same : suc (length (newer ++ older)) ≡ length rest = ap length e in
    absurd (omega (arith, long, same, le))
between_splits {X} (n ∷ newer) older (y ∷ first) rest e le =
    let head : n ≡ y = cc in
    let tail : newer ++ older ≡ first ++ rest = cc in
    let b : Between newer older first rest = between_splits newer older first rest tail le in
    record {
      between = b.between;
      start = ap (λ (z : X). z ∷ first) (sym head) ∙ ap (λ (zs : List X). n ∷ zs) b.start;
      end = b.end;
    }

pub events_append : (newer older : List Noted) → events_of (newer ++ older) ≡ events_of newer ++ events_of older
events_append [] older = refl
events_append (n ∷ newer) older = ap (λ (es : List Event). n.event ∷ es) (events_append newer older)

pub events_length : (ns : List Noted) → length (events_of ns) ≡ length ns
events_length [] = refl
events_length (n ∷ ns) = ap suc (events_length ns)

-- an event of an annotated history, with its notes
pub record At (ns : List Noted) (e : Event) : Type 0 where
  pub newer : List Noted
  pub item : Noted
  pub older : List Noted
  pub split : ns ≡ newer ++ item ∷ older
  pub is : item.event ≡ e

pub event_at : (ns : List Noted) (after before : List Event) (e : Event) → events_of ns ≡ after ++ e ∷ before → At ns e
event_at [] [] before e split = cc
event_at [] (x ∷ after) before e split = cc
event_at (n ∷ ns) [] before e split = record { newer = []; item = n; older = ns; split = refl; is = cc }
event_at (n ∷ ns) (x ∷ after) before e split =
    let rest : events_of ns ≡ after ++ e ∷ before = cc in
    let a : At ns e = event_at ns after before e rest in
    record {
      newer = n ∷ a.newer;
      item = a.item;
      older = a.older;
      split = ap (λ (xs : List Noted). n ∷ xs) a.split;
      is = a.is;
    }

-- a split of the events is one of the notes
pub record NotesSplit (ns : List Noted) (newer older : List Event) : Type 0 where
  pub new : List Noted
  pub old : List Noted
  pub split : ns ≡ new ++ old
  pub new_events : events_of new ≡ newer
  pub old_events : events_of old ≡ older

pub notes_split : (ns : List Noted) (newer older : List Event) → events_of ns ≡ newer ++ older → NotesSplit ns newer older
notes_split ns [] older e = record { new = []; old = ns; split = refl; new_events = refl; old_events = e }
notes_split [] (x ∷ newer) older e = cc
notes_split (n ∷ ns) (x ∷ newer) older e =
    let rest : events_of ns ≡ newer ++ older = cc in
    let first : n.event ≡ x = cc in
    let s : NotesSplit ns newer older = notes_split ns newer older rest in
    record {
      new = n ∷ s.new;
      old = s.old;
      split = ap (λ (xs : List Noted). n ∷ xs) s.split;
      new_events = ap (λ (es : List Event). n.event ∷ es) s.new_events ∙ ap (λ (y : Event). y ∷ newer) first;
      old_events = s.old_events;
    }
