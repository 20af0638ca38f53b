-- A history is alike to what came before its last event, where that event is idle.
use Rattle.bbm_idle.proofs.Common.{Patterns, Alike, adds_at, adds_since, adds_to, answers_needed, is_needed}
use Rattle.bbm_idle.proofs.Common.{is_needed_at, keeps_phases, takes_of, wrote_register, Known}
use Rattle.bbm_rules.proofs.Common.{◌≡◌, ℕ, ◌<◌, Bool, true, false, not, ◌&&◌, ◌||◌, ◌==◌, List, [], ◌∷◌, map, Option}
use Rattle.bbm_rules.proofs.Common.{Some, None, find, is_none, is_some, Contains, refl, sym, ◌∙◌, ap, subst, true≢false}
use Rattle.bbm_rules.proofs.Common.{and_parts, false_from_ne_true, not-true, pe_finds, proved, If, Is, none_of, keeps}
use Rattle.bbm_rules.proofs.Common.{changes, note, noted, ValidWrite, last_valid, any, Noted, events_of, is_fresh}
use Rattle.bbm_rules.proofs.Common.{may_be_fresh, page_of, Barrier, Heading, Event, Init, Dsb, Dmb, Isb, Tlbi, reaches}
use Rattle.bbm_rules.proofs.Common.{unanswered, first_pages, itself, Node, held_at, in_tree, node_of, written_places}
use Rattle.bbm_rules.specs.Broken.{broken}
use Rattle.bbm_lemmas.proofs.Bools.{first_none, second_false, second_none}
use Rattle.bbm_rules.specs.Held.{empties_tables}
use Rattle.bbm_rules.specs.Notes.{topped}
use Rattle.bbm_rules.specs.Mapped.{initialises, is_clean, is_mapped}
use Rattle.bbm_rules.specs.Tree.{tree}
use Rattle.bbm_alike.proofs.MappedAlike.{same_mapped}
use Rattle.bbm_alike.specs.Alike.{SameRegisters}
use Rattle.bbm_alike.specs.SameTags.{AnswersNone, SameTags, TakesNone}
use Rattle.bbm_idle.specs.Idle.{is_idle}
use Rattle.bbm_idle.proofs.DsbBase.{same_held, same_patterns, same_tree}
use Rattle.bbm_idle.proofs.Needed.{adds_needed}
use Rattle.bbm_idle.proofs.Registers.{idle_isb}
use Rattle.bbm_idle.proofs.Waits.{PatternsAlike, changeless, of_dmb, of_isb, of_tlbi}
use Rattle.bbm_rules.proofs.HeldLemmas.{older}

-- ---- tags

module _ (heading : Heading) where
  -- a TLBI that isn't needed takes no tag
  takes_none : (h : List Event) (e : Event) → is_needed heading h e ≡ false → TakesNone heading h e
  takes_none h e needless p less =
      proved 3 (λ r a b. If (Is (r && (a || b)) false) (Is (r && b) false)) refl (reaches heading e p) (any
      (adds_at heading (noted heading Patterns h) e p) (written_places h)) (any (takes_of heading h e p)
      (first_pages h))
      (false_from_ne_true (is_needed_at heading h e p) (λ needed. true≢false (sym (pe_finds heading.pes
      (is_needed_at heading h e) p less needed)
      ∙ needless)))

  answers_none : (q : ℕ) (dsb : Barrier) (h : List Event) → any (answers_needed heading dsb) (unanswered itself q h) ≡ false
      → AnswersNone heading q dsb h
  answers_none q dsb h none t waiting completed =
      takes_none t.before t.tlbi (sym (ap (λ (x : Bool). x && is_needed heading t.before t.tlbi) completed)
      ∙ none_of (answers_needed heading dsb) (unanswered itself q h) none t waiting)

  -- ---- the parts of the relation

  -- the event changes no value, no page, no root and no lock
  pub record Quiet (e : Event) : Type 0 where
    pub values : (changes e).values ≡ false
    pub inits : (changes e).inits ≡ false
    pub nulls : (changes e).nulls ≡ false
    pub roots : (changes e).roots ≡ false
    pub locks : (changes e).locks ≡ false

  fresh_outside : (ns : List Noted) (page : ℕ) → (is_fresh heading Patterns ns page && not (in_tree heading Patterns ns page))
      ≡ is_fresh heading Patterns ns page
  fresh_outside [] page = refl
  fresh_outside (n ∷ ns) page = proved 2 (λ m t. Is ((m && not t) && not t) (m && not t)) refl
      (may_be_fresh n.event page (is_fresh heading Patterns ns page)) (in_tree heading Patterns (n ∷ ns) page)

  -- a clean page isn't mapped
  clean_unmapped : (ns : List Noted) (page : ℕ) → (is_clean heading Patterns ns page && not (is_mapped heading Patterns ns page))
      ≡ is_clean heading Patterns ns page
  clean_unmapped [] page = refl
  clean_unmapped (n ∷ ns) page = proved 2 (λ m t. Is ((m && not t) && not t) (m && not t)) refl
      (initialises page n.event || is_clean heading Patterns ns page) (is_mapped heading Patterns (n ∷ ns) page)

  initialises_none : (page : ℕ) (e : Event) → (changes e).inits ≡ false → initialises page e ≡ false
  initialises_none page (Init pe at) none = cc
  initialises_none page e none = refl

  module _ (k : Known heading) (h : List Event) (e : Event) where
    abbrev before : List Noted
    before = noted heading Patterns h

    abbrev after : List Noted
    after = noted heading Patterns (e ∷ h)

    abbrev item : Noted
    item = note heading Patterns (noted heading Patterns h) e

    abbrev SameHeld : Type 0
    SameHeld = (n : Node) (place : ℕ) → Contains (tree heading Patterns (noted heading Patterns h)) n → page_of place ≡ n.page
        → held_at heading Patterns (noted heading Patterns (e ∷ h)) n place ≡ held_at heading Patterns (noted heading Patterns h) n place

    abbrev PatternsStay : Type 0
    PatternsStay = (n : Node) (place value : ℕ) (w : ValidWrite) → Contains (tree heading Patterns (noted heading Patterns h)) n
        → page_of place ≡ n.page → held_at heading Patterns (noted heading Patterns h) n place ≡ Some value
        → last_valid n.kind n.level place (noted heading Patterns h) ≡ Some w
        → PatternsAlike heading k place (note heading Patterns (noted heading Patterns h) e ∷ w.since) w.since

    same_fresh : Quiet e → tree heading Patterns after ≡ tree heading Patterns before → (page : ℕ)
        → is_fresh heading Patterns after page ≡ is_fresh heading Patterns before page
    same_fresh quiet trees page =
        ap (λ (b : Bool). b && not (in_tree heading Patterns after page))
        (k.changes.fresh e page (is_fresh heading Patterns before page) quiet.inits quiet.nulls)
        ∙ (ap (λ (ns : List Node). is_fresh heading Patterns before page && not (is_some (find (λ (n : Node). n.page == page) ns))) trees
        ∙ fresh_outside before page)

    same_clean : Quiet e → tree heading Patterns after ≡ tree heading Patterns before
        → ((n : Node) (place : ℕ) → Contains (tree heading Patterns after) n → page_of place ≡ n.page
        → held_at heading Patterns after n place ≡ held_at heading Patterns before n place)
        → (page : ℕ) → is_clean heading Patterns after page ≡ is_clean heading Patterns before page
    same_clean quiet trees held page =
        ap (λ (b : Bool). (b || is_clean heading Patterns before page) && not (is_mapped heading Patterns after page))
        (initialises_none page e quiet.inits)
        ∙ (ap (λ (b : Bool). is_clean heading Patterns before page && not b)
        (same_mapped heading Patterns Patterns after before (k.changes.written e (events_of before) quiet.values) trees held page)
        ∙ clean_unmapped before page)

    patterns_on : Quiet e → PatternsStay → (n : Node) (place value : ℕ) (w w' : ValidWrite) → Contains (tree heading Patterns before) n
        → page_of place ≡ n.page → held_at heading Patterns before n place ≡ Some value → last_valid n.kind n.level place after ≡ Some w
        → last_valid n.kind n.level place before ≡ Some w' → PatternsAlike heading k place w.since w'.since
    patterns_on quiet stay n place value w w' t inside holds last last' =
        let v = older item (last_valid n.kind n.level place before) w
        (sym (k.changes.valid item before n.kind n.level place quiet.values) ∙ last) in
        let same : Some v.before ≡ Some w' = sym v.is ∙ last' in
        let one : v.before ≡ w' = cc in
        let since : item ∷ w'.since ≡ w.since = ap (λ (x : ValidWrite). item ∷ x.since) (sym one) ∙ v.longer in
        subst (λ (s : List Noted). PatternsAlike heading k place s w'.since) since (stay n place value w' t inside holds last')

    alike_by : Quiet e → SameRegisters (e ∷ h) h
        → tree heading Patterns after ≡ tree heading Patterns before → SameHeld → PatternsStay → SameTags heading Patterns Patterns (e ∷ h) h
        → Alike heading Patterns Patterns (e ∷ h) h
    alike_by quiet registers trees same_held stay tags = record {
      values = λ place. k.changes.values e h place quiet.values;
      places = k.changes.written e h quiet.values;
      roots = k.changes.roots e h quiet.roots;
      nulls = λ page. k.changes.nulls e h page quiet.nulls;
      registers = registers;
      locks = λ lock. k.changes.locks e h lock quiet.locks;
      trees = trees;
      fresh = same_fresh quiet trees;
      clean = same_clean quiet trees (λ n place t inside. same_held n place (there n t) inside);
      held = λ n place t inside. same_held n place (there n t) inside;
      patterns = λ n place w w' t inside some last last'. (alike_at n place w w' t inside some last last').0;
      tops = λ late n place w w' t inside some last last'. (alike_at n place w w' t inside some last last').1 late;
      tags = tags.tags;
      given = k.changes.given e h quiet.roots;
      holds = tags.holds;
      left = tags.left;
      tag_wait = tags.tag_wait;
    }
      where
        there : (n : Node) → Contains (tree heading Patterns after) n → Contains (tree heading Patterns before) n
        there n t = subst (λ (ns : List Node). Contains ns n) trees t

        by : (n : Node) (place : ℕ) (w w' : ValidWrite) → Contains (tree heading Patterns before) n → page_of place ≡ n.page
            → last_valid n.kind n.level place after ≡ Some w → last_valid n.kind n.level place before ≡ Some w' → (o : Option ℕ)
            → held_at heading Patterns before n place ≡ o → is_some (held_at heading Patterns before n place) ≡ true
            → PatternsAlike heading k place w.since w'.since
        by n place w w' t inside last last' None o some = absurd (true≢false (sym some ∙ ap is_some o))
        by n place w w' t inside last last' (Some value) o some = patterns_on quiet stay n place value w w' t inside o last last'

        alike_at : (n : Node) (place : ℕ) (w w' : ValidWrite) → Contains (tree heading Patterns after) n → page_of place ≡ n.page
            → is_some (held_at heading Patterns after n place) ≡ true → last_valid n.kind n.level place after ≡ Some w
            → last_valid n.kind n.level place before ≡ Some w' → PatternsAlike heading k place w.since w'.since
        alike_at n place w w' t inside some last last' = by n place w w' (there n t) inside last last'
            (held_at heading Patterns before n place) refl (sym (ap is_some (same_held n place (there n t) inside)) ∙ some)

    -- where no place holds anything else
    same_trees : Quiet e → ((n : Node) (place : ℕ) → held_at heading Patterns after n place ≡ held_at heading Patterns before n place)
        → tree heading Patterns after ≡ tree heading Patterns before
    same_trees quiet same_held =
        k.trees_alike after before
        (k.changes.roots e (events_of before) quiet.roots)
        (k.changes.written e (events_of before) quiet.values)
        (λ n place t inside. same_held n place)

  -- ---- the base

  node_before : Known heading → (h : List Event) → keeps heading Patterns h ≡ true → (n : Node) (place : ℕ)
      → Contains (tree heading Patterns (noted heading Patterns h)) n → page_of place ≡ n.page
      → node_of heading Patterns (noted heading Patterns h) (page_of place) ≡ Some n
  node_before k h kept n place t inside = ap (node_of heading Patterns (noted heading Patterns h)) inside
      ∙ k.one_node.the_first h kept n t

  pub base : Known heading → (h : List Event) (e : Event) → keeps heading Patterns (e ∷ h) ≡ true
      → is_idle heading h e ≡ true → Alike heading Patterns Patterns (e ∷ h) h
  unfolding is_idle
  base k h (Dmb pe dsb) kept idle =
      alike_by k h (Dmb pe dsb) quiet (record { values = λ p reg. refl; standings = λ p. refl })
      (same_trees k h (Dmb pe dsb) quiet held) (λ n place t inside. held n place)
      (λ n place value w t inside holds last. (
        changeless heading k place item w.since (of_dmb heading k place item.covers item.tops item.position w.since pe dsb),
        λ late. changeless heading k place (topped item) (map topped w.since)
            (of_dmb heading k place item.tops item.tops item.position (map topped w.since) pe dsb),
      ))
      (k.same_tags.dmb Patterns pe dsb h)
    where
      quiet : Quiet (Dmb pe dsb)
      quiet = record { values = refl; inits = refl; nulls = refl; roots = refl; locks = refl }

      item : Noted
      item = note heading Patterns (noted heading Patterns h) (Dmb pe dsb)

      held : (n : Node) (place : ℕ) → held_at heading Patterns (noted heading Patterns (Dmb pe dsb ∷ h)) n place
          ≡ held_at heading Patterns (noted heading Patterns h) n place
      held n place = k.held_step n.kind n.level place item (noted heading Patterns h) k.proper.some_pe
  base k h (Isb pe) kept idle =
      alike_by k h (Isb pe) quiet registers (same_trees k h (Isb pe) quiet held) (λ n place t inside. held n place)
      (λ n place value w t inside holds last. (
        changeless heading k place item w.since (of_isb heading k place item.covers item.tops item.position w.since pe),
        λ late. changeless heading k place (topped item) (map topped w.since)
            (of_isb heading k place item.tops item.tops item.position (map topped w.since) pe),
      ))
      (k.same_tags.isb Patterns pe h registers.values)
    where
      quiet : Quiet (Isb pe)
      quiet = record { values = refl; inits = refl; nulls = refl; roots = refl; locks = refl }

      item : Noted
      item = note heading Patterns (noted heading Patterns h) (Isb pe)

      registers : SameRegisters (Isb pe ∷ h) h
      registers = idle_isb pe h (not-true (wrote_register pe h) idle)

      held : (n : Node) (place : ℕ) → held_at heading Patterns (noted heading Patterns (Isb pe ∷ h)) n place
          ≡ held_at heading Patterns (noted heading Patterns h) n place
      held n place = k.held_step n.kind n.level place item (noted heading Patterns h) k.proper.some_pe
  base k h (Tlbi pe op xt) kept idle =
      alike_by k h (Tlbi pe op xt) quiet (record { values = λ p reg. refl; standings = λ p. refl })
      (same_trees k h (Tlbi pe op xt) quiet held) (λ n place t inside. held n place)
      (λ n place value w t inside holds last. (
        changeless heading k place item w.since (of_tlbi heading k place item.covers item.tops item.position w.since pe op xt
            (λ p less reached. first_none (adds_to heading (item.covers place) p place w.since)
            (empties_tables heading.version && adds_to heading (item.tops place) p place (map topped w.since))
            (adds_none n place w t inside last p less reached))),
        λ late. changeless heading k place (topped item) (map topped w.since)
            (of_tlbi heading k place item.tops item.tops item.position (map topped w.since) pe op xt
            (λ p less reached. second_false (empties_tables heading.version) (adds_to heading (item.tops place) p place (map topped w.since))
            (second_none (adds_to heading (item.covers place) p place w.since)
            (empties_tables heading.version && adds_to heading (item.tops place) p place (map topped w.since))
            (adds_none n place w t inside last p less reached)) late)),
      ))
      (k.same_tags.tlbi pe op xt h (takes_none h (Tlbi pe op xt) needless))
    where
      quiet : Quiet (Tlbi pe op xt)
      quiet = record { values = refl; inits = refl; nulls = refl; roots = refl; locks = refl }

      item : Noted
      item = note heading Patterns (noted heading Patterns h) (Tlbi pe op xt)

      kept_before : keeps heading Patterns h ≡ true
      kept_before = (and_parts (keeps heading Patterns h) (is_none (broken heading Patterns h (Tlbi pe op xt))) kept).0

      needless : is_needed heading h (Tlbi pe op xt) ≡ false
      needless = not-true (is_needed heading h (Tlbi pe op xt)) idle

      -- where it reaches the PE it adds nothing
      adds_none : (n : Node) (place : ℕ) (w : ValidWrite) → Contains (tree heading Patterns (noted heading Patterns h)) n
          → page_of place ≡ n.page → last_valid n.kind n.level place (noted heading Patterns h) ≡ Some w → (p : ℕ) → p < heading.pes
          → reaches heading (Tlbi pe op xt) p ≡ true → adds_since heading item p place (Some w) ≡ false
      adds_none n place w t inside last p less reached = false_from_ne_true (adds_since heading item p place (Some w)) (λ adding.
          true≢false (sym (adds_needed heading k.notes_keep_the_events h (Tlbi pe op xt) p place n w less reached
          (node_before k h kept_before n place t inside) last adding) ∙ needless))

      held : (n : Node) (place : ℕ) → held_at heading Patterns (noted heading Patterns (Tlbi pe op xt ∷ h)) n place
          ≡ held_at heading Patterns (noted heading Patterns h) n place
      held n place = k.held_step n.kind n.level place item (noted heading Patterns h) k.proper.some_pe
  base k h (Dsb pe dsb) kept idle =
      alike_by k h (Dsb pe dsb) (record { values = refl; inits = refl; nulls = refl; roots = refl; locks = refl })
      (record { values = λ p reg. refl; standings = λ p. refl })
      (same_tree heading k h pe dsb kept idle) (same_held heading k h pe dsb kept idle)
      (same_patterns heading k h pe dsb kept idle)
      (k.same_tags.dsb pe dsb h
      (answers_none pe dsb h (not-true (any (answers_needed heading dsb) (unanswered itself pe h))
      (and_parts (keeps_phases heading h (Dsb pe dsb)) (not (any (answers_needed heading dsb) (unanswered itself pe h))) idle).1)))
  base k h e kept idle = absurd (true≢false (sym idle))
