-- What is kept of the pages that leaves of stage 2 map, after an event.
use Rattle.bbm_rules.proofs.Common.{◌≡◌, ℕ, ◌+◌, nat_le, nat_lt, not, Bool, true, false, cond, ◌&&◌, ◌||◌, ◌==◌, List}
use Rattle.bbm_rules.proofs.Common.{[], ◌∷◌, Option, Some, None, option_and_then, option_map_or, refl, sym, ◌∙◌, ap}
use Rattle.bbm_rules.proofs.Common.{subst, inl, inr, true≢false, arith, and_parts, or_cases, or_left, or_right}
use Rattle.bbm_rules.proofs.Common.{not-true, false_from_ne_true, eq-eqb, eqb-true, and-true, and-false, or-false, Kind}
use Rattle.bbm_rules.proofs.Common.{core_in, core_of, desc_of, is_valid, Core, Desc, Invalid, Table, Leaf, Event, Init}
use Rattle.bbm_rules.proofs.Common.{Root, Write, attached_by, keeps, Patterns, Noted, events_of, is_fresh, may_be_fresh}
use Rattle.bbm_rules.proofs.Common.{page_of, Node, held_at, in_tree, node_of, same_kind, value_of, written_places, In}
use Rattle.bbm_events.specs.Heading.{Heading}
use Rattle.bbm_regimes.specs.Extent.{span_of}
use Rattle.bbm_regimes.specs.declared.regime.Kind.TheVariants.{S2}
use Rattle.bbm_histories.specs.TreeChanges.{Attaches, HeldChange, Proper}
use Rattle.bbm_rules.specs.Mapped.{initialises, is_clean, is_mapped, maps, maps_as}
use Rattle.bbm_rules.specs.Rules.{puts_over, writes_over}
use Rattle.bbm_rules.specs.TreeSentences.{Mapped}
use Rattle.bbm_tree_index.specs.Outputs.{CoversLeaf, Grows, HeldOver, core_maps}
use Rattle.bbm_replay_trees.specs.BelowTrees.{Below}
use Rattle.bbm_replay_trees.specs.Guarding.{Guards, Searches}
use Rattle.bbm_replay_trees.specs.Told.{AllFit, SameCores, SameNodes, View, core_at, notes}
use Rattle.bbm_replay_trees.specs.TreeEvents.{may_map}
use Rattle.bbm_replay_trees.proofs.CoreLemmas.{came}
use Rattle.bbm_replay_trees.proofs.FitLemmas.{is_at_page}
use Rattle.bbm_replay_trees.proofs.NodeLemmas.{fresh_outside}
use Rattle.bbm_replay_trees.proofs.AttachLemmas.{outside_none}
use Rattle.bbm_lemmas.proofs.Numbers.{same_swapped}
use Rattle.bbm_lemmas.proofs.Words.{some_is}
use Rattle.std.proofs.Math.Bool.{and_assoc}
use Rattle.std.proofs.lemmas.Option.{cond_some}
use Rattle.bbm_rules.proofs.HeldLemmas.{held_is_written}

-- ---- leaves that map a page

-- what a core maps is what the value maps that it is of
pub core_maps_is : (kind : Kind) (level : ℕ) (o : Option ℕ) (page : ℕ)
    → core_maps kind level (option_and_then (core_of kind level) o) page
    ≡ option_map_or (λ v. maps kind level v page) o false
core_maps_is kind level None page = refl
core_maps_is kind level (Some v) page = by (desc_of kind level v)
  where
    by : (d : Desc) → core_maps kind level (core_in d) page ≡ (same_kind kind S2 && maps_as level d page)
    by Invalid = sym (and-false (same_kind kind S2))
    by (Table next ns) = sym (and-false (same_kind kind S2))
    by (Leaf out attrs share global contiguous) =
        and_assoc (same_kind kind S2) (nat_le out page) (nat_lt page (out + span_of level))

mapped_value : (kind : Kind) (level : ℕ) (o : Option ℕ) (page : ℕ)
    → option_map_or (λ v. maps kind level v page) o false ≡ true
    → (v : ℕ) × (o ≡ Some v) × (maps kind level v page ≡ true)
mapped_value kind level None page k = absurd (true≢false (sym k))
mapped_value kind level (Some v) page k = (v, refl, k)

-- ---- events that put no leaf anywhere

-- what may be fresh after an event was so before it, but for the page of an `init`
fresh_before : (e : Event) (p : ℕ) (before : Bool) → initialises p e ≡ false → may_be_fresh e p before ≡ true
    → before ≡ true
fresh_before e p before no_init k = grind arith

no_init : (e : Event) (p : ℕ) → may_map e ≡ false → initialises p e ≡ false
no_init e p k = grind arith

module _ (heading : Heading) (ns : List Noted) (e : Event) where
  writes_none : (p : ℕ) → may_map e ≡ false → writes_over heading Patterns ns e p ≡ false
  writes_none p k = grind arith

  attaches_none : may_map e ≡ false → attached_by heading Patterns ns e ≡ None
  attaches_none k = grind arith

  -- an event that attaches nothing puts a leaf over the pages over which it writes one
  pub puts_written : (p : ℕ) → attached_by heading Patterns ns e ≡ None
      → puts_over heading Patterns ns e p ≡ writes_over heading Patterns ns e p
  puts_written p none = rw none (or-false (writes_over heading Patterns ns e p))

-- over which pages a write writes a leaf: none where its place is outside the trees
module _ (heading : Heading) (ns : List Noted) (pe place v : ℕ) where
  pub outside_writes : (p : ℕ) → node_of heading Patterns ns (page_of place) ≡ None
      → writes_over heading Patterns ns (Write pe place v) p ≡ false
  outside_writes p at = rw at refl

  pub inside_writes : (n : Node) (p : ℕ) → node_of heading Patterns ns (page_of place) ≡ Some n
      → writes_over heading Patterns ns (Write pe place v) p ≡ maps n.kind n.level v p
  inside_writes n p at = rw at (or-false (maps n.kind n.level v p))

-- ---- the start

-- nothing is held before the first event
pub start : (heading : Heading) → Guards heading [] (λ page. false) (λ table page. false)
start heading = record {
  unmapped = λ page k. absurd (true≢false (sym k));
  clean = λ page k. refl;
  within = λ n place value page there holds m. cc;
}

-- ---- what stays

module _ (heading : Heading) (b : Below heading) (h : List Event) where
  abbrev marks : List Noted
  marks = notes heading h

  -- the annotated history after an event
  abbrev after : Event → List Noted
  after e = notes heading (e ∷ h)

  -- the node of the page of a place, and the pages over which an event puts a leaf
  abbrev node_at : ℕ → Option Node
  node_at place = node_of heading Patterns marks (page_of place)

  abbrev over : Event → ℕ → Bool
  over e p = puts_over heading Patterns marks e p

  -- whether a page is fresh, and whether it is in a tree
  abbrev fresh_in : List Noted → ℕ → Bool
  fresh_in ns p = is_fresh heading Patterns ns p

  abbrev there_in : List Noted → ℕ → Bool
  there_in ns p = in_tree heading Patterns ns p

  -- whether it is one or the other
  abbrev guarded : List Noted → ℕ → Bool
  guarded ns p = fresh_in ns p || there_in ns p

  still_guarded : (e : Event) → keeps heading Patterns (e ∷ h) ≡ true → (p : ℕ) → initialises p e ≡ false
      → guarded (after e) p ≡ true → guarded marks p ≡ true
  still_guarded e kept p unmade k =
      elim (or_cases (fresh_in (after e) p) (there_in (after e) p) k) [
        | inl fresh ↦
            or_left (fresh_in marks p) (there_in marks p)
            (fresh_before e p (fresh_in marks p) unmade
            (and_parts (may_be_fresh e p (fresh_in marks p)) (not (there_in (after e) p)) fresh).0)
        | inr there ↦
            (let n = some_is (node_of heading Patterns (after e) p) there in
            let taken = b.tree.taken (after e) p n.0 n.1 in
            elim (b.one_position.gained h e kept n.0 taken.0) [
              | inl old ↦ or_right (fresh_in marks p) (there_in marks p)
                  (subst (λ (x : ℕ). there_in marks x ≡ true) taken.1 (b.tree.has marks n.0 old))
              | inr new ↦ or_left (fresh_in marks p) (there_in marks p)
                  (subst (λ (x : ℕ). fresh_in marks x ≡ true) taken.1 new.1)
            ])
      ]

  -- How a place of a tree comes to hold a value by an event: it held it before; the event writes it; or the event
  -- attaches its page, in which it is the present value.
  data HeldFrom (e : Event) (n : Node) (place value : ℕ) : Type 0 where
    before : node_at place ≡ Some n → held_at heading Patterns marks n place ≡ Some value → HeldFrom e n place value
    written : (pe : ℕ) → e ≡ Write pe place value → node_at place ≡ Some n → HeldFrom e n place value
    attached : Attaches heading Patterns marks e n → page_of place ≡ n.page → value_of h place ≡ value
        → HeldFrom e n place value

  -- an attached page keeps its values
  value_stays : (e : Event) (n : Node) (place : ℕ) → Attaches heading Patterns marks e n
      → fresh_in marks (page_of place) ≡ true → value_of (e ∷ h) place ≡ value_of h place
  value_stays (Write pe at v) n place l fresh =
      ap (λ (c : Bool). cond c v (value_of h place)) (false_from_ne_true (at == place) (λ same.
      let none : None ≡ Some l.parent
      = sym (fresh_outside heading marks (page_of place) fresh)
      ∙ (ap node_at (sym (eqb-true at place same)) ∙ l.is_parent) in cc))
  value_stays (Root pe kind lock page) n place l fresh = refl
  value_stays e n place l fresh = absurd l

  held_from : (e : Event) → Proper heading → keeps heading Patterns (e ∷ h) ≡ true → (n : Node) (place value : ℕ)
      → node_of heading Patterns (after e) (page_of place) ≡ Some n
      → held_at heading Patterns (after e) n place ≡ Some value → HeldFrom e n place value
  held_from e proper kept n place value at holds =
      let taken = came heading b h e kept n place at in
      elim taken.0 [
        | inl there ↦ old there.1 (b.held_changes.changes h e proper.some_pe kept n place there.0 (sym taken.1))
        | inr new ↦ attached new.0 (sym taken.1) (present new.0 new.1 taken.1)
      ]
    where
      old : node_at place ≡ Some n
          → HeldChange n.kind n.level place e (held_at heading Patterns marks n place)
          (held_at heading Patterns (after e) n place)
          → HeldFrom e n place value
      old there (inl same) = before there (sym same ∙ holds)
      old there (inr (inl w)) =
          let both : Some w.1 ≡ Some value = sym w.4 ∙ holds in
          let same : w.1 ≡ value = cc in
          written w.0 (w.2 ∙ ap (Write w.0 place) same) there
      old there (inr (inr d)) = let none : None ≡ Some value = sym d.3 ∙ holds in cc

      present : Attaches heading Patterns marks e n → fresh_in marks n.page ≡ true → n.page ≡ page_of place
          → value_of h place ≡ value
      present a fresh in_page =
          sym (value_stays e n place a (ap (is_fresh heading Patterns marks) (sym in_page) ∙ fresh))
          ∙ (ap (λ es. value_of es place) (sym (b.notes_keep_the_events (e ∷ h)))
          ∙ (cond_some (is_valid n.kind n.level (value_of (events_of (after e)) place))
          (value_of (events_of (after e)) place) value
          (sym (b.fresh_content.attached h e proper.some_pe kept n place a (sym in_page)).holds ∙ holds)).1)

  -- ---- one event

  -- The leaf that an event writes, and those of the pages that it attaches, are where leaves are looked for after it.
  pub record Looks (e : Event) (may may' : ℕ → ℕ → Bool) : Type 0 where
    pub grows : Grows may may'
    pub written : (pe place v : ℕ) (n : Node) (page : ℕ) → e ≡ Write pe place v
        → node_at place ≡ Some n → maps n.kind n.level v page ≡ true
        → may' (page_of place) page ≡ true
    pub attached : (n : Node) (place page : ℕ) → Attaches heading Patterns marks e n → page_of place ≡ n.page
        → maps n.kind n.level (value_of h place) page ≡ true → may' (page_of place) page ≡ true

  module _ (e : Event) (proper : Proper heading) (kept : keeps heading Patterns (e ∷ h) ≡ true) (free free' : ℕ → Bool)
      (may may' : ℕ → ℕ → Bool) (g : Guards heading h free may) where
    looked : Looks e may may' → (n : Node) (place value page : ℕ)
        → node_of heading Patterns (after e) (page_of place) ≡ Some n
        → held_at heading Patterns (after e) n place ≡ Some value → maps n.kind n.level value page ≡ true
        → may' (page_of place) page ≡ true
    looked looks n place value page at holds m = by (held_from e proper kept n place value at holds)
      where
        by : HeldFrom e n place value → may' (page_of place) page ≡ true
        by (before there old) = looks.grows (page_of place) page (g.within n place value page there old m)
        by (written pe is there) = looks.written pe place value n page is there m
        by (attached a inside present) =
            looks.attached n place page a inside (ap (λ v. maps n.kind n.level v page) present ∙ m)

    -- an event that is no `init`
    pub step : ((p : ℕ) → initialises p e ≡ false)
        → ((p : ℕ) → free' p ≡ (free p && not (over e p))) → Looks e may may'
        → Guards heading (e ∷ h) free' may'
    step unmade free_is looks = record {
      unmapped = λ p k.
          let parts = and_parts (free p) (not (over e p)) (sym (free_is p) ∙ k) in
          b.mapped_step.unmapped h e kept p (g.unmapped p parts.0) (not-true (over e p) parts.1);
      clean = λ p k.
          free_is p ∙ (ap (λ c. c && not (over e p))
          (g.clean p (still_guarded e kept p (unmade p) k)) ∙ sym (b.mapped_step.clean h e proper kept p (unmade p)));
      within = looked looks;
    }

  -- an event that is no `init` and puts no leaf anywhere
  still : (e : Event) → Proper heading → keeps heading Patterns (e ∷ h) ≡ true → (free : ℕ → Bool) (may : ℕ → ℕ → Bool)
      → Guards heading h free may → ((p : ℕ) → initialises p e ≡ false)
      → ((p : ℕ) → writes_over heading Patterns marks e p ≡ false) → attached_by heading Patterns marks e ≡ None
      → ((pe place v : ℕ) (n : Node) → e ≡ Write pe place v → node_at place ≡ Some n → ⊥)
      → Guards heading (e ∷ h) free may
  still e proper kept free may g unmade unwritten none outside =
      step e proper kept free free may may g unmade
      (λ p. sym (ap (λ c. free p && not c) (puts_written heading marks e p none ∙ unwritten p) ∙ and-true (free p)))
      (record {
        grows = λ t p k. k;
        written = λ pe place v n page is at m. absurd (outside pe place v n is at);
        attached = λ n place page a inside m. absurd (b.node_step.unattached marks e none n a);
      })

  pub others : (e : Event) (free : ℕ → Bool) (may : ℕ → ℕ → Bool) → Proper heading
      → keeps heading Patterns (e ∷ h) ≡ true → may_map e ≡ false → Guards heading h free may
      → Guards heading (e ∷ h) free may
  others e free may proper kept quiet g =
      still e proper kept free may g (λ p. no_init e p quiet) (λ p. writes_none heading marks e p quiet)
      (attaches_none heading marks e quiet)
      (λ pe place v n is at. true≢false (sym (ap may_map is) ∙ quiet))

  pub outside : (pe place v : ℕ) (free : ℕ → Bool) (may : ℕ → ℕ → Bool) → Proper heading
      → keeps heading Patterns (Write pe place v ∷ h) ≡ true → node_at place ≡ None
      → Guards heading h free may → Guards heading (Write pe place v ∷ h) free may
  outside pe place v free may proper kept at g =
      still (Write pe place v) proper kept free may g (λ p. refl) (λ p. outside_writes heading marks pe place v p at)
      (outside_none heading b h pe place v at)
      (λ q a x n is there.
      let same : place ≡ a = cc in
      let apart : None ≡ Some n = sym at ∙ (ap node_at same ∙ there) in cc)

  pub write : (n : Node) (pe place v : ℕ) (free free' : ℕ → Bool) (may may' : ℕ → ℕ → Bool) → Proper heading
      → keeps heading Patterns (Write pe place v ∷ h) ≡ true → node_at place ≡ Some n
      → attached_by heading Patterns marks (Write pe place v) ≡ None
      → CoversLeaf n.kind n.level place v free free' may may' → Guards heading h free may
      → Guards heading (Write pe place v ∷ h) free' may'
  write n pe place v free free' may may' proper kept at none covers g =
      step (Write pe place v) proper kept free free' may may' g (λ p. refl)
      (λ p. covers.free p ∙ sym (ap (λ c. free p && not c)
      (puts_written heading marks (Write pe place v) p none ∙ inside_writes heading marks pe place v n p at)))
      (record {
        grows = covers.grows;
        written = λ q a x m page is there k.
            let here : place ≡ a = cc in
            let value : v ≡ x = cc in
            let both : Some n ≡ Some m = sym at ∙ (ap node_at here ∙ there) in
            let same : m ≡ n = cc in
            subst (λ (y : ℕ). may' (page_of y) page ≡ true) here
            (covers.own page (rw (← same, value) k));
        attached = λ m a page link inside k. absurd (b.node_step.unattached marks (Write pe place v) none m link);
      })

  -- ---- an `init`

  module _ (view : View) (pe page : ℕ) (free free' : ℕ → Bool) (may : ℕ → ℕ → Bool) (proper : Proper heading)
      (fit : AllFit heading h) (kept : keeps heading Patterns (Init pe page ∷ h) ≡ true)
      (same : SameNodes heading (Init pe page ∷ h) view.node)
      (same_core : SameCores heading (Init pe page ∷ h) (core_at view)) (s : Searches view page free free' may)
      (g : Guards heading h free may) where
    abbrev now : List Noted
    now = after (Init pe page)

    -- what a place holds after it, and whether a page is mapped then
    abbrev held_now : Node → ℕ → Option ℕ
    held_now n place = held_at heading Patterns now n place

    abbrev mapped_now : ℕ → Bool
    mapped_now p = is_mapped heading Patterns now p

    -- a held leaf that maps a page of the place's page
    abbrev Over : ℕ → Type 0
    Over p = HeldOver view.node (core_at view) may p

    unmapped_after : (p : ℕ) → free p ≡ true → mapped_now p ≡ false
    unmapped_after p k = b.mapped_step.unmapped h (Init pe page) kept p (g.unmapped p k) refl

    -- it writes and attaches no leaf
    looks_still : Looks (Init pe page) may may
    looks_still = record {
      grows = λ t p k. k;
      written = λ q a v n p is there m. cc;
      attached = λ n a p link inside m. absurd link;
    }

    -- what a core maps is what the held value maps
    core_is : (n : Node) (place p : ℕ) → node_of heading Patterns now (page_of place) ≡ Some n
        → core_maps n.kind n.level (core_at view n.kind n.level place) p
        ≡ option_map_or (λ v. maps n.kind n.level v p) (held_now n place) false
    core_is n place p there =
        ap (λ (o : Option Core). core_maps n.kind n.level o p) (same_core n place there)
        ∙ core_maps_is n.kind n.level (held_now n place) p

    held_over : (p : ℕ) → mapped_now p ≡ true → Over p
    held_over p k =
        let m : Mapped heading Patterns now p = b.mapped.sound now p k in
        let there : node_of heading Patterns now (page_of m.place) ≡ Some m.node
        = ap (node_of heading Patterns now) m.inside
        ∙ b.one_node.the_first (Init pe page ∷ h) kept m.node (b.tree.complete now m.node m.is_node) in
        record {
          stands = m.node;
          place = m.place;
          at = same (page_of m.place) ∙ there;
          inside = is_at_page heading h fit (page_of m.place) m.place
              (subst (λ es. In (written_places es) m.place) (b.notes_keep_the_events (Init pe page ∷ h))
              (held_is_written heading Patterns m.place m.node.kind m.node.level now m.value m.holds)) refl;
          looked_for = looked (Init pe page) proper kept free free may may g looks_still m.node m.place m.value p there
              m.holds m.maps_page;
          maps_page = core_is m.node m.place p there
              ∙ (ap (λ (o : Option ℕ). option_map_or (λ v. maps m.node.kind m.node.level v p) o false) m.holds
              ∙ m.maps_page);
        }

    mapped_by : (p : ℕ) → Over p → mapped_now p ≡ true
    mapped_by p o =
        let there : node_of heading Patterns now (page_of o.place) ≡ Some o.stands
        = sym (same (page_of o.place)) ∙ o.at in
        let taken = b.tree.taken now (page_of o.place) o.stands there in
        let v = mapped_value o.stands.kind o.stands.level (held_now o.stands o.place) p
        (sym (core_is o.stands o.place p there) ∙ o.maps_page) in
        b.mapped.complete now p (record {
          node = o.stands;
          is_node = b.tree.sound now o.stands taken.0;
          place = o.place;
          inside = sym taken.1;
          value = v.0;
          holds = v.1;
          maps_page = v.2;
        })

    -- the page of the `init` is free exactly where it isn't mapped
    of_page : free' page ≡ not (mapped_now page)
    of_page = by (free page) (mapped_now page) refl refl
      where
        by : (c d : Bool) → free page ≡ c → mapped_now page ≡ d → free' page ≡ not d
        by true true k m = absurd (true≢false (sym m ∙ unmapped_after page k))
        by true false k m = s.kept k
        by false true k m = s.found k (held_over page m)
        by false false k m = s.missed k (λ o. true≢false (sym (mapped_by page o) ∙ m))

    pub init : Guards heading (Init pe page ∷ h) free' may
    init = record {
      unmapped = λ p k. unmapped p (p == page) refl k;
      clean = λ p k. clean p (p == page) refl k;
      within = looked (Init pe page) proper kept free free' may may g looks_still;
    }
      where
        unmapped : (p : ℕ) (c : Bool) → (p == page) ≡ c → free' p ≡ true → mapped_now p ≡ false
        unmapped p true e k =
            ap mapped_now (eqb-true p page e)
            ∙ not-true (mapped_now page) (sym of_page ∙ (ap free' (sym (eqb-true p page e)) ∙ k))
        unmapped p false e k = unmapped_after p (sym (s.others p e) ∙ k)

        clean : (p : ℕ) (c : Bool) → (p == page) ≡ c → guarded now p ≡ true
            → free' p ≡ is_clean heading Patterns now p
        clean p true e k =
            ap free' (eqb-true p page e) ∙ (of_page
            ∙ (ap (λ (c : Bool). (c || is_clean heading Patterns marks page) && not (mapped_now page))
            (sym (eq-eqb page page refl)) ∙ ap (is_clean heading Patterns now) (sym (eqb-true p page e))))
        clean p false e k =
            let unmade : (page == p) ≡ false = same_swapped page p ∙ e in
            s.others p e ∙ (g.clean p (still_guarded (Init pe page) kept p unmade k)
            ∙ (sym (and-true (is_clean heading Patterns marks p))
            ∙ sym (b.mapped_step.clean h (Init pe page) proper kept p unmade)))
