-- What it says of a TLBI that it is needed, or isn't.
use Rattle.bbm_idle.proofs.Common.{Patterns, answered_by, half_after, half_waits, is_tlbi, adds_at, adds_since, adds_to}
use Rattle.bbm_idle.proofs.Common.{answers_needed, is_needed, is_needed_at, takes_of, Kind, Known}
use Rattle.bbm_rules.proofs.Common.{◌≡◌, ℕ, suc, ◌<◌, Bool, true, false, not, ◌&&◌, ◌||◌, List, [], ◌∷◌, ◌++◌, length, map}
use Rattle.bbm_rules.proofs.Common.{Option, Some, option_map_or, Contains, is_none, refl, sym, ◌∙◌, ap, subst, true≢false}
use Rattle.bbm_rules.proofs.Common.{and_from, and_parts, false_from_ne_true, or_left, or_right, pe_finds, In, any_finds}
use Rattle.bbm_rules.proofs.Common.{any_found, from_contains, none_of, to_contains, proved, If, Is, answers, same_flag}
use Rattle.bbm_rules.proofs.Common.{operation, Cover, Half, Second, Full, keeps, cleansed, flushes, half, same_cover, seen}
use Rattle.bbm_rules.proofs.Common.{cover_at, note, noted, ValidWrite, last_valid, any, Noted, events_of, page_of, Barrier}
use Rattle.bbm_rules.proofs.Common.{Heading, Event, Dsb, Tlbi, Issued, completes, reaches, unanswered, first_pages, Open}
use Rattle.bbm_rules.proofs.Common.{completes_for, itself, Node, node_of, written_places}
use Rattle.std.proofs.lemmas.List.{append_assoc}
use Rattle.bbm_rules.specs.Broken.{broken}
use Rattle.bbm_rules.specs.BrokenLaws.{NotesKeepEvents}
use Rattle.bbm_rules.specs.Covers.{top_at}
use Rattle.bbm_rules.specs.Held.{empties_tables}
use Rattle.bbm_rules.specs.Notes.{event_of, topped}
use Rattle.bbm_rules.specs.Tree.{tree}
use Rattle.bbm_histories.specs.HistorySteps.{cleansed_after, full_waits, second_waits, waits}
use Rattle.bbm_histories.specs.TreeChanges.{HeldBy, View}
use Rattle.bbm_idle.proofs.Since.{answered_topped, cleansed_later, half_later, later_topped, topped_issue}
use Rattle.bbm_idle.proofs.Waits.{item}
use Rattle.bbm_rules.proofs.Emptied.{seen_topped}
use Rattle.bbm_rules.proofs.PatternLaw.{same_by}
use Rattle.bbm_rules.proofs.HeldLemmas.{last_is_written}
use Rattle.bbm_histories.proofs.Induction.{event_at, events_append}
use Rattle.bbm_histories.proofs.SeenFirst.{answered_waits, half_seen}

-- ---- words

-- a DSB that answers such TLBIs completes each of them
pub kind_completed : (dsb : Barrier) (b : Bool) (e : Event) → is_tlbi b e ≡ true → answers dsb b ≡ true → completes dsb e ≡ true
kind_completed dsb b (Tlbi pe op xt) is a = by (operation op).broadcast b is a
  where
    by : (x y : Bool) → same_flag x y ≡ true → answers dsb y ≡ true → answers dsb x ≡ true
    by true true is a = a
    by false false is a = a
    by true false is a = absurd (true≢false (sym is))
    by false true is a = absurd (true≢false (sym is))
kind_completed dsb b e is a = absurd (true≢false (sym is))

-- what comes only where it was so already adds nothing
unless : (now was : Bool) → (was ≡ false → now ≡ false) → (now || was) ≡ was
unless = proved 2 (λ now was. If (If (Is was false) (Is now false)) (Is (now || was) was)) refl

module _ (heading : Heading) where
  -- what a TLBI adds at a place of a tree
  adds_there : (h : List Noted) (e : Event) (p place : ℕ) (n : Node) (w : ValidWrite) → node_of heading Patterns h (page_of place) ≡ Some n
      → last_valid n.kind n.level place h ≡ Some w
      → adds_at heading h e p place ≡ adds_since heading (note heading Patterns h e) p place (Some w)
  adds_there h e p place n w node last =
      ap (λ (o : Option Node). option_map_or (λ m. adds_since heading (note heading Patterns h e) p place
      (last_valid m.kind m.level place h)) o false) node
      ∙ ap (adds_since heading (note heading Patterns h e) p place) last

  needs_at : (h : List Event) (e : Event) (p : ℕ) → p < heading.pes → is_needed_at heading h e p ≡ true → is_needed heading h e ≡ true
  needs_at h e p less needed = pe_finds heading.pes (is_needed_at heading h e) p less needed

  -- a place that had a valid write was written
  pub written_at : NotesKeepEvents heading Patterns → (h : List Event) (kind : Kind) (level place : ℕ) (w : ValidWrite)
      → last_valid kind level place (noted heading Patterns h) ≡ Some w → In (written_places h) place
  written_at notes h kind level place w last =
      subst (λ (es : List Event). In (written_places es) place) (notes h)
      (last_is_written kind level place (noted heading Patterns h) w last)

  -- a TLBI that adds something at a place of a tree is needed
  pub adds_needed : NotesKeepEvents heading Patterns → (h : List Event) (e : Event) (p place : ℕ) (n : Node) (w : ValidWrite)
      → p < heading.pes → reaches heading e p ≡ true
      → node_of heading Patterns (noted heading Patterns h) (page_of place) ≡ Some n
      → last_valid n.kind n.level place (noted heading Patterns h) ≡ Some w
      → adds_since heading (note heading Patterns (noted heading Patterns h) e) p place (Some w) ≡ true → is_needed heading h e ≡ true
  adds_needed notes h e p place n w less reached node last adding =
      needs_at h e p less (and_from (reaches heading e p)
      (any (adds_at heading (noted heading Patterns h) e p) (written_places h) || any (takes_of heading h e p) (first_pages h)) reached
      (or_left (any (adds_at heading (noted heading Patterns h) e p) (written_places h)) (any (takes_of heading h e p) (first_pages h))
      (any_finds (adds_at heading (noted heading Patterns h) e p) (written_places h) place
      (written_at notes h n.kind n.level place w last)
      (adds_there (noted heading Patterns h) e p place n w node last ∙ adding))))

  -- and so is one that takes a tag which is kept for the page of a root
  pub takes_needed : (h : List Event) (e : Event) (p page : ℕ) → p < heading.pes → reaches heading e p ≡ true
      → In (first_pages h) page → takes_of heading h e p page ≡ true → is_needed heading h e ≡ true
  takes_needed h e p page less reached listed taking =
      needs_at h e p less (and_from (reaches heading e p)
      (any (adds_at heading (noted heading Patterns h) e p) (written_places h) || any (takes_of heading h e p) (first_pages h)) reached
      (or_right (any (adds_at heading (noted heading Patterns h) e p) (written_places h)) (any (takes_of heading h e p) (first_pages h))
      (any_finds (takes_of heading h e p) (first_pages h) page listed taking)))

-- ---- what a TLBI adds of one step

module _ (heading : Heading) (cover : Cover) (place p : ℕ) (since : List Noted) where
  adds_half : same_cover cover Half ≡ true → seen heading place p since ≡ true → half heading place p since ≡ false
      → adds_to heading cover p place since ≡ true
  adds_half is was yet = ap (λ (c : Cover). adds_to heading c p place since) (same_by cover Half is)
      ∙ (ap (λ (x : Bool). x && not (half heading place p since)) was ∙ ap not yet)

  adds_full : same_cover cover Full ≡ true → seen heading place p since ≡ true → cleansed heading Patterns place p since ≡ false
      → adds_to heading cover p place since ≡ true
  adds_full is was yet = ap (λ (c : Cover). adds_to heading c p place since) (same_by cover Full is)
      ∙ (ap (λ (x : Bool). x && not (cleansed heading Patterns place p since)) was ∙ ap not yet)

  adds_second : same_cover cover Second ≡ true → half heading place p since ≡ true → cleansed heading Patterns place p since ≡ false
      → adds_to heading cover p place since ≡ true
  adds_second is was yet = ap (λ (c : Cover). adds_to heading c p place since) (same_by cover Second is)
      ∙ (ap (λ (x : Bool). x && not (cleansed heading Patterns place p since)) was ∙ ap not yet)

-- what a flush says of its TLBI
record Flushing (heading : Heading) (cover : Cover) (p place : ℕ) (test : List Noted → Bool) (t : Issued Noted) : Type 0 where
  reached : reaches heading t.tlbi.event p ≡ true
  covered : same_cover (t.tlbi.covers place) cover ≡ true
  tested : test t.before ≡ true

flushing : (heading : Heading) (cover : Cover) (p place : ℕ) (test : List Noted → Bool) (t : Issued Noted)
    → flushes heading place p cover test t ≡ true → Flushing heading cover p place test t
flushing heading cover p place test t e =
    let outer = and_parts (reaches heading t.tlbi.event p && same_cover (t.tlbi.covers place) cover) (test t.before) e in
    let inner = and_parts (reaches heading t.tlbi.event p) (same_cover (t.tlbi.covers place) cover) outer.0 in
    record { reached = inner.0; covered = inner.1; tested = outer.1 }

-- ---- a DSB that answers no TLBI that was needed adds nothing, where the place holds something

module _ (heading : Heading) (k : Known heading) (h : List Event) (kept : keeps heading Patterns h ≡ true) (n : Node) (place value : ℕ)
    (w : ValidWrite) (held : HeldBy heading Patterns (noted heading Patterns h) n place value w) (p : ℕ) (less : p < heading.pes) where
  -- what was so when a TLBI was issued that still waits
  record AtIssue (q : ℕ) (t : Issued Noted) : Type 0 where
    pub before : List Event
    pub waiting : In (unanswered itself q h) (record { tlbi = t.tlbi.event; before = before })
    pub node : node_of heading Patterns (noted heading Patterns before) (page_of place) ≡ Some n
    pub last : last_valid n.kind n.level place (noted heading Patterns before) ≡ Some (record { value = value; since = t.before })
    pub noted_so : t.tlbi ≡ note heading Patterns (noted heading Patterns before) t.tlbi.event

  by_view : (q : ℕ) (t : Issued Noted) (o : Open event_of q w.since t) (older : List Noted)
      → noted heading Patterns h ≡ o.newer ++ t.tlbi ∷ older
      → HeldBy heading Patterns older n place value (record { value = value; since = t.before })
      → older ≡ noted heading Patterns (events_of older) → t.tlbi ≡ note heading Patterns older t.tlbi.event → AtIssue q t
  by_view q t o older split was same is = record {
    before = events_of older;
    waiting = from_contains (unanswered itself q h) (record { tlbi = t.tlbi.event; before = events_of older })
        (k.answered.complete q h (record { tlbi = t.tlbi.event; before = events_of older }) (record {
          newer = events_of o.newer;
          split = parts;
          issued = o.issued;
          uncompleted = λ x after before i. let m = event_at o.newer after before x i in
              subst (λ (y : Event). completes_for q t.tlbi.event y ≡ false) m.is (o.uncompleted m.item m.newer m.older m.split);
        }));
    node = ap (node_of heading Patterns (noted heading Patterns (events_of older))) was.inside
        ∙ k.one_node.the_first (events_of older) kept_then n
        (subst (λ (ns : List Noted). Contains (tree heading Patterns ns) n) same was.in_tree);
    last = subst (λ (ns : List Noted). last_valid n.kind n.level place ns ≡ Some (record { value = value; since = t.before })) same was.is_last;
    noted_so = is ∙ ap (λ (ns : List Noted). note heading Patterns ns t.tlbi.event) same;
  }
    where
      parts : h ≡ events_of o.newer ++ t.tlbi.event ∷ events_of older
      parts = sym (k.notes_keep_the_events h) ∙ (ap events_of split ∙ events_append o.newer (t.tlbi ∷ older))

      kept_then : keeps heading Patterns (events_of older) ≡ true
      kept_then = (and_parts (keeps heading Patterns (events_of older)) (is_none (broken heading Patterns (events_of older) t.tlbi.event))
          (k.frozen.kept (events_of o.newer) (t.tlbi.event ∷ events_of older)
          (subst (λ (es : List Event). keeps heading Patterns es ≡ true) parts kept))).0

  noted_is : (m : Noted) (older : List Noted) → m.covers ≡ cover_at heading Patterns older m.event
      → m.tops ≡ top_at heading Patterns older m.event → m.position ≡ suc (length older) → m ≡ note heading Patterns older m.event
  noted_is m older covers tops position =
      ap (λ (f : ℕ → Cover). item m.event f m.tops m.position) covers
      ∙ (ap (λ (f : ℕ → Cover). item m.event (cover_at heading Patterns older m.event) f m.position) tops
      ∙ ap (λ (i : ℕ). item m.event (cover_at heading Patterns older m.event) (top_at heading Patterns older m.event) i) position)

  at_issue : (q : ℕ) (t : Issued Noted) → In (unanswered event_of q w.since) t → seen heading place p t.before ≡ true → AtIssue q t
  at_issue q t waiting was_seen =
      let o : Open event_of q w.since t = k.answered.noted_sound q w.since t
      (to_contains (unanswered event_of q w.since) t waiting) in
      let v : View heading Patterns (noted heading Patterns h) n place value o.newer t.before t.tlbi
      = k.frozen_view h kept n place value p w o.newer t.before t.tlbi held o.split was_seen in
      let notes = k.notes.each h o.newer v.older t.tlbi v.split in
      by_view q t o v.older v.split v.was notes.0
      (noted_is t.tlbi v.older notes.1 (k.notes.tops h o.newer v.older t.tlbi v.split) notes.2)

  -- a TLBI reaches the PE, and adds something at the place by what came before it
  record Adding (t : Issued Noted) : Type 0 where
    reached : reaches heading t.tlbi.event p ≡ true
    was_seen : seen heading place p t.before ≡ true
    adds_some : adds_since heading t.tlbi p place (Some (record { value = value; since = t.before })) ≡ true

  -- one that does and still waits was needed
  waiting_needed : (q : ℕ) (t : Issued Noted) → In (unanswered event_of q w.since) t → Adding t
      → (before : List Event) × In (unanswered itself q h) (record { tlbi = t.tlbi.event; before = before })
      × (is_needed heading before t.tlbi.event ≡ true)
  waiting_needed q t waiting adding =
      let a : AtIssue q t = at_issue q t waiting adding.was_seen in
      let was : ValidWrite = record { value = value; since = t.before } in (
        a.before,
        a.waiting,
        adds_needed heading k.notes_keep_the_events a.before t.tlbi.event p place n was less adding.reached a.node a.last
            (subst (λ (m : Noted). adds_since heading m p place (Some was) ≡ true) a.noted_so adding.adds_some),
      )

  -- what isn't so yet wasn't so before
  not_before : (test : List Noted → Bool) → ((newer since : List Noted) → test since ≡ true → test (newer ++ since) ≡ true)
      → test w.since ≡ false → (q : ℕ) (t : Issued Noted) → In (unanswered event_of q w.since) t → test t.before ≡ false
  not_before test later yet q t waiting =
      let o : Open event_of q w.since t = k.answered.noted_sound q w.since t
      (to_contains (unanswered event_of q w.since) t waiting) in
      let split : w.since ≡ (o.newer ++ t.tlbi ∷ []) ++ t.before = o.split ∙ sym (append_assoc o.newer (t.tlbi ∷ []) t.before) in
      false_from_ne_true (test t.before) (λ e. true≢false (sym (ap test split ∙ later (o.newer ++ t.tlbi ∷ []) t.before e) ∙ yet))

  module _ (q : ℕ) (dsb : Barrier) (none : any (answers_needed heading dsb) (unanswered itself q h) ≡ false) where
    -- the DSB answers no TLBI that adds something
    answers_none : (test : Issued Noted → Bool) → ((t : Issued Noted) → In (unanswered event_of q w.since) t → test t ≡ true → Adding t)
        → answered_by dsb (λ b. waits event_of q b test w.since) ≡ false
    answers_none test adding = false_from_ne_true (answered_by dsb (λ b. waits event_of q b test w.since)) (λ e.
        let a = answered_waits dsb (λ b. waits event_of q b test w.since) e in
        let f = any_found (λ t. is_tlbi a.0 (event_of t.tlbi) && test t) (unanswered event_of q w.since) a.2 in
        let parts = and_parts (is_tlbi a.0 (event_of f.0.tlbi)) (test f.0) f.2 in
        let was = waiting_needed q f.0 f.1 (adding f.0 f.1 parts.1) in
        true≢false (sym (and_from (completes dsb f.0.tlbi.event) (is_needed heading was.0 f.0.tlbi.event)
        (kind_completed dsb a.0 f.0.tlbi.event parts.0 a.1) was.2)
        ∙ none_of (answers_needed heading dsb) (unanswered itself q h) none (record { tlbi = f.0.tlbi.event; before = was.0 }) was.1))

    pub half_stays : half_after heading place p (Dsb q dsb) w.since ≡ half heading place p w.since
    half_stays = unless (answered_by dsb (λ b. half_waits heading place p q b w.since)) (half heading place p w.since) (λ yet.
        answers_none (flushes heading place p Half (seen heading place p)) (λ t waiting e.
        let f = flushing heading Half p place (seen heading place p) t e in record {
          reached = f.reached;
          was_seen = f.tested;
          adds_some = or_left (adds_to heading (t.tlbi.covers place) p place t.before)
              (empties_tables heading.version && adds_to heading (t.tlbi.tops place) p place (map topped t.before))
              (adds_half heading (t.tlbi.covers place) place p t.before f.covered f.tested
              (not_before (half heading place p) (half_later heading k place p) yet q t waiting));
        }))

    -- from version 5 on it adds nothing by top covers
    module _ (late : empties_tables heading.version ≡ true) where
      abbrev tops : List Noted
      tops = map topped w.since

      -- a TLBI adds something by its top cover
      by_top : (t : Issued Noted) → reaches heading t.tlbi.event p ≡ true → seen heading place p (map topped t.before) ≡ true
          → adds_to heading (t.tlbi.tops place) p place (map topped t.before) ≡ true → Adding t
      by_top t reached was_seen adding = record {
        reached = reached;
        was_seen = sym (seen_topped heading place p t.before) ∙ was_seen;
        adds_some = or_right (adds_to heading (t.tlbi.covers place) p place t.before)
            (empties_tables heading.version && adds_to heading (t.tlbi.tops place) p place (map topped t.before))
            (and_from (empties_tables heading.version) (adds_to heading (t.tlbi.tops place) p place (map topped t.before)) late adding);
      }

      unhalf : half heading place p tops ≡ false → (t : Issued Noted) → In (unanswered event_of q w.since) t
          → half heading place p (map topped t.before) ≡ false
      unhalf yet t waiting = not_before (λ s. half heading place p (map topped s))
          (later_topped (half heading place p) (half_later heading k place p)) yet q t waiting

      unclean : cleansed heading Patterns place p tops ≡ false → (t : Issued Noted) → In (unanswered event_of q w.since) t
          → cleansed heading Patterns place p (map topped t.before) ≡ false
      unclean yet t waiting = not_before (λ s. cleansed heading Patterns place p (map topped s))
          (later_topped (cleansed heading Patterns place p) (cleansed_later heading k place p)) yet q t waiting

      -- no TLBI that passes the test is answered, where each of them adds something by its top cover
      none_by_tops : (test : Issued Noted → Bool)
          → ((t : Issued Noted) → In (unanswered event_of q w.since) t → test (topped_issue t) ≡ true → Adding t)
          → answered_by dsb (λ b. waits event_of q b test tops) ≡ false
      none_by_tops test adding = answered_topped heading k q dsb test w.since ∙ answers_none (λ t. test (topped_issue t)) adding

      none_half : half heading place p tops ≡ false → answered_by dsb (λ b. half_waits heading place p q b tops) ≡ false
      none_half yet = none_by_tops (flushes heading place p Half (seen heading place p)) (λ t waiting e.
          let f = flushing heading Half p place (seen heading place p) (topped_issue t) e in
          by_top t f.reached f.tested
          (adds_half heading (t.tlbi.tops place) place p (map topped t.before) f.covered f.tested (unhalf yet t waiting)))

      none_full : cleansed heading Patterns place p tops ≡ false → answered_by dsb (λ b. full_waits heading place p q b tops) ≡ false
      none_full yet = none_by_tops (flushes heading place p Full (seen heading place p)) (λ t waiting e.
          let f = flushing heading Full p place (seen heading place p) (topped_issue t) e in
          by_top t f.reached f.tested
          (adds_full heading (t.tlbi.tops place) place p (map topped t.before) f.covered f.tested (unclean yet t waiting)))

      none_second : cleansed heading Patterns place p tops ≡ false → answered_by dsb (λ b. second_waits heading place p q b tops) ≡ false
      none_second yet = none_by_tops (flushes heading place p Second (half heading place p)) (λ t waiting e.
          let f = flushing heading Second p place (half heading place p) (topped_issue t) e in
          by_top t f.reached (half_seen heading k.pattern_steps place p (map topped t.before) f.tested)
          (adds_second heading (t.tlbi.tops place) place p (map topped t.before) f.covered f.tested (unclean yet t waiting)))

      pub half_top_stays : half_after heading place p (Dsb q dsb) tops ≡ half heading place p tops
      half_top_stays = unless (answered_by dsb (λ b. half_waits heading place p q b tops)) (half heading place p tops) none_half

      pub cleansed_top_stays : cleansed_after heading place p (Dsb q dsb) tops ≡ cleansed heading Patterns place p tops
      cleansed_top_stays = unless (answered_by dsb (λ b. full_waits heading place p q b tops) || answered_by dsb (λ b. second_waits heading place p q b tops))
          (cleansed heading Patterns place p tops)
          (λ yet. ap (λ (x : Bool). x || answered_by dsb (λ b. second_waits heading place p q b tops)) (none_full yet) ∙ none_second yet)
