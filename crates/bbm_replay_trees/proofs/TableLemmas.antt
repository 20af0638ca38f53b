-- What the rule on table pages says of an event, and what is kept after one that attaches pages.
use Rattle.bbm_rules.proofs.Common.{◌≡◌, ◌≢◌, ℕ, ◌⊎◌, not, Bool, true, false, cond, ◌&&◌, List, [], ◌∷◌, ◌++◌, Option}
use Rattle.bbm_rules.proofs.Common.{Some, None, is_some, filter, flat_map, option_map_or, option_to_list, refl, sym}
use Rattle.bbm_rules.proofs.Common.{◌∙◌, ap, subst, inl, inr, true≢false, and_from, and_parts, or_left, not-true}
use Rattle.bbm_rules.proofs.Common.{not_from_false, false_from_ne_true, and-false, same_truth, Kind, desc_of, Desc}
use Rattle.bbm_rules.proofs.Common.{Event, Root, Write, all_ends, attached_by, pages_of, Breach, breaks, first_broken}
use Rattle.bbm_rules.proofs.Common.{keeps, Patterns, least, Noted, is_fresh, page_of, Node, in_tree, next_of, node_of}
use Rattle.bbm_rules.proofs.Common.{same_kind, value_of, In, from_contains, to_contains, from_filter, to_filter}
use Rattle.bbm_rules.proofs.Common.{from_map, in_append, in_left, in_map, in_right}
use Rattle.bbm_events.specs.Heading.{Heading}
use Rattle.bbm_regimes.specs.declared.regime.Kind.TheVariants.{S2}
use Rattle.bbm_histories.specs.TreeChanges.{Attaches, Proper}
use Rattle.bbm_rules.specs.Mapped.{initialises, is_clean, maps, maps_as, table_pages}
use Rattle.bbm_rules.specs.Rules.{bad_tables, made_tables, mapped_table, puts_over, table_mapped, writes_over}
use Rattle.bbm_rules.specs.Tree.{tree}
use Rattle.bbm_rules.specs.declared.rule.Rule.{Rule}
use Rattle.bbm_rules.specs.declared.rule.Rule.TheVariants.{WrongWorld, NoLock, NullWritten, BreakBeforeMake, LimboMake}
use Rattle.bbm_rules.specs.declared.rule.Rule.TheVariants.{NotFresh, RewrittenFresh, BadKind, GlobalUser, PageInUse}
use Rattle.bbm_rules.specs.declared.rule.Rule.TheVariants.{TableMapped}
use Rattle.bbm_tree_index.specs.LeastPages.{LeastOf}
use Rattle.bbm_tree_index.specs.Outputs.{AttachedOver, BadTable, CoversAttached}
use Rattle.bbm_replay_trees.specs.BelowTrees.{Below}
use Rattle.bbm_replay_trees.specs.Guarding.{Guards}
use Rattle.bbm_replay_trees.specs.Told.{AllFit, SameNodes, SameValues, is_at, notes}
use Rattle.bbm_replay_trees.specs.TreeEvents.{earlier_rules}
use Rattle.bbm_replay_trees.proofs.FitLemmas.{is_at_page}
use Rattle.bbm_replay_trees.proofs.GuardLemmas.{inside_writes, outside_writes, puts_written, step}
use Rattle.bbm_replay_trees.proofs.LeastLemmas.{least_is}
use Rattle.bbm_replay_trees.proofs.NodeLemmas.{attached_fresh}
use Rattle.bbm_replay_trees.proofs.PathLemmas.{OfLeaves, no_leaf}
use Rattle.bbm_tree_index.proofs.Places.{at_page}
use Rattle.bbm_lemmas.proofs.Elements.{none_in}
use Rattle.bbm_lemmas.proofs.Words.{some_is}
use Rattle.bbm_rules.proofs.TreeLaw.{written_by}

-- ---- the values that map a page

-- a table maps none
abbrev leaf_over : ℕ → ℕ → Kind → Desc → Bool
leaf_over level page kind d = same_kind kind S2 && maps_as level d page

of_leaves : (level page : ℕ) → OfLeaves (leaf_over level page)
of_leaves level page = record {
  invalid = λ kind. and-false (same_kind kind S2);
  table = λ kind next ns. and-false (same_kind kind S2);
}

pub table_maps : (kind : Kind) (level v next page : ℕ) → next_of kind level v ≡ Some next
    → maps kind level v page ≡ false
table_maps kind level v next page table =
    no_leaf (leaf_over level page) (of_leaves level page) kind (desc_of kind level v) next table

zero_maps : (kind : Kind) (level page : ℕ) → maps kind level 0 page ≡ false
zero_maps kind level page = (of_leaves level page).invalid kind

-- ---- the rules before the one on table pages

module _ (heading : Heading) (ns : List Noted) (e : Event) where
  head_none : (rule : Rule) (o : Option ℕ) (rest : Option Breach)
      → option_map_or (λ (at : ℕ). Some (record { rule = rule; at = at })) o rest ≡ None → (o ≡ None) × (rest ≡ None)
  head_none rule None rest k = (refl, k)
  head_none rule (Some at) rest k = cc

  each_none : (rules : List Rule) → first_broken heading Patterns ns e rules ≡ None → (rule : Rule) → In rules rule
      → breaks heading Patterns ns e rule ≡ None
  each_none [] none rule i = absurd i
  each_none (first ∷ rules) none rule i =
      let parts = head_none first (breaks heading Patterns ns e first) (first_broken heading Patterns ns e rules) none
      in
      elim i [
        | inl same ↦ subst (λ (r : Rule). breaks heading Patterns ns e r ≡ None) same parts.0
        | inr later ↦ each_none rules parts.1 rule later
      ]

module _ (heading : Heading) (ns : List Noted) (pe : ℕ) where
  module _ (place v : ℕ) where
    of_write : (rule : Rule) → rule ≢ TableMapped → In (earlier_rules (Write pe place v)) rule
        ⊎ (breaks heading Patterns ns (Write pe place v) rule ≡ None)
    of_write TableMapped apart = absurd (apart refl)
    of_write NoLock apart = inl (inl refl)
    of_write NullWritten apart = inl (inr (inl refl))
    of_write BreakBeforeMake apart = inl (inr (inr (inl refl)))
    of_write LimboMake apart = inl (inr (inr (inr (inl refl))))
    of_write NotFresh apart = inl (inr (inr (inr (inr (inl refl)))))
    of_write RewrittenFresh apart = inl (inr (inr (inr (inr (inr (inl refl))))))
    of_write BadKind apart = inl (inr (inr (inr (inr (inr (inr (inl refl)))))))
    of_write GlobalUser apart = inl (inr (inr (inr (inr (inr (inr (inr (inl refl))))))))
    of_write rule apart = inr refl

    pub write_unbroken : first_broken heading Patterns ns (Write pe place v) (earlier_rules (Write pe place v)) ≡ None
        → (rule : Rule) → rule ≢ TableMapped → breaks heading Patterns ns (Write pe place v) rule ≡ None
    write_unbroken none rule apart = elim (of_write rule apart) [
      | inl i ↦ each_none heading ns (Write pe place v) (earlier_rules (Write pe place v)) none rule i
      | inr never ↦ never
    ]

  module _ (page : ℕ) (kind : Kind) (lock : Option ℕ) where
    of_root : (rule : Rule) → rule ≢ TableMapped → In (earlier_rules (Root pe kind lock page)) rule
        ⊎ (breaks heading Patterns ns (Root pe kind lock page) rule ≡ None)
    of_root TableMapped apart = absurd (apart refl)
    of_root WrongWorld apart = inl (inl refl)
    of_root NotFresh apart = inl (inr (inl refl))
    of_root BadKind apart = inl (inr (inr (inl refl)))
    of_root GlobalUser apart = inl (inr (inr (inr (inl refl))))
    of_root PageInUse apart = inl (inr (inr (inr (inr (inl refl)))))
    of_root rule apart = inr refl

    pub root_unbroken : first_broken heading Patterns ns (Root pe kind lock page)
        (earlier_rules (Root pe kind lock page)) ≡ None
        → (rule : Rule) → rule ≢ TableMapped → breaks heading Patterns ns (Root pe kind lock page) rule ≡ None
    root_unbroken none rule apart = elim (of_root rule apart) [
      | inl i ↦ each_none heading ns (Root pe kind lock page) (earlier_rules (Root pe kind lock page)) none rule i
      | inr never ↦ never
    ]

-- ---- the least bad page

abbrev tables : Heading → List Noted → List ℕ
tables heading ns = table_pages heading Patterns ns

module _ (heading : Heading) (ns : List Noted) (e : Event) where
  abbrev made : List ℕ
  made = made_tables heading Patterns ns e

  abbrev bad : List ℕ
  bad = bad_tables heading Patterns ns e

  abbrev over : ℕ → Bool
  over page = puts_over heading Patterns ns e page

  abbrev is_unclean : ℕ → Bool
  is_unclean page = not (is_clean heading Patterns ns page)

  -- A bad page is a table page, or one that the event makes so, over which it puts a leaf; or one that it makes so and
  -- that isn't clean.
  abbrev IsBad : ℕ → Type 0
  IsBad page = ((over page ≡ true) × (In (tables heading ns) page ⊎ In made page))
      ⊎ (In made page × (is_clean heading Patterns ns page ≡ false))

  from_bad : (page : ℕ) → In bad page → IsBad page
  from_bad page i =
      elim (in_append (filter over (tables heading ns ++ made)) (filter is_unclean made) page i) [
        | inl put ↦
            (let f = from_filter over (tables heading ns ++ made) page put in
            inl (f.1, in_append (tables heading ns) made page f.0))
        | inr unclean ↦
            (let f = from_filter is_unclean made page unclean in
            inr (f.0, not-true (is_clean heading Patterns ns page) f.1))
      ]

  to_bad : (page : ℕ) → IsBad page → In bad page
  to_bad page (inl put) =
      in_left (filter over (tables heading ns ++ made)) (filter is_unclean made) page
      (to_filter over (tables heading ns ++ made) page (among put.1) put.0)
    where
      among : In (tables heading ns) page ⊎ In made page → In (tables heading ns ++ made) page
      among (inl there) = in_left (tables heading ns) made page there
      among (inr new) = in_right (tables heading ns) made page new
  to_bad page (inr unclean) =
      in_right (filter over (tables heading ns ++ made)) (filter is_unclean made) page
      (to_filter is_unclean made page unclean.0 (not_from_false (is_clean heading Patterns ns page) unclean.1))

  least_bad : heading.words.isolated ≡ true → (passes : ℕ → Type 0) → ((page : ℕ) → IsBad page → passes page)
      → ((page : ℕ) → passes page → IsBad page) → (o : Option ℕ) → LeastOf passes o
      → mapped_table heading Patterns ns e ≡ o
  least_bad on passes from to o f =
      ap (λ (c : Bool). cond c (least bad) None) on
      ∙ least_is passes bad (λ page i. from page (from_bad page i)) (λ page k. to_bad page (to page k)) o f

  off : heading.words.isolated ≡ false → mapped_table heading Patterns ns e ≡ None
  off k = ap (λ (c : Bool). cond c (least bad) None) k

  -- an event that attaches nothing
  made_none : attached_by heading Patterns ns e ≡ None → (page : ℕ) → In made page → ⊥
  made_none none page i = none_in made page (ap (λ o. flat_map (λ a. pages_of (all_ends a)) (option_to_list o)) none) i

pub rule_off : (heading : Heading) (ns : List Noted) (e : Event) → heading.words.isolated ≡ false
    → table_mapped heading Patterns ns e ≡ None
rule_off heading ns (Write pe place v) k = off heading ns (Write pe place v) k
rule_off heading ns (Root pe kind lock page) k = off heading ns (Root pe kind lock page) k
rule_off heading ns e k = refl

module _ (heading : Heading) (b : Below heading) (h : List Event) where
  abbrev marks : List Noted
  marks = notes heading h

  -- the table pages are the pages that have a node
  module _ (node : ℕ → Option Node) (same : SameNodes heading h node) where
    from_tables : (page : ℕ) → In (tables heading marks) page → is_some (node page) ≡ true
    from_tables page i =
        let n = from_map (λ (m : Node). m.page) (tree heading Patterns marks) page i in
        ap is_some (same page) ∙ subst (λ (x : ℕ). in_tree heading Patterns marks x ≡ true) n.2
        (b.tree.has marks n.0 (to_contains (tree heading Patterns marks) n.0 n.1))

    to_tables : (page : ℕ) → is_some (node page) ≡ true → In (tables heading marks) page
    to_tables page k =
        let n = some_is (node_of heading Patterns marks page) (sym (ap is_some (same page)) ∙ k) in
        let taken = b.tree.taken marks page n.0 n.1 in
        subst (In (tables heading marks)) taken.1
        (in_map (λ (m : Node). m.page) (tree heading Patterns marks) n.0
        (from_contains (tree heading Patterns marks) n.0 taken.0))

    -- ---- a write that attaches nothing

    module _ (pe place v : ℕ) (none : attached_by heading Patterns marks (Write pe place v) ≡ None) where
      abbrev writes : ℕ → Bool
      writes page = writes_over heading Patterns marks (Write pe place v) page

      from_written : (page : ℕ) → IsBad heading marks (Write pe place v) page
          → (writes page ≡ true) × (is_some (node page) ≡ true)
      from_written page (inl put) = (
        sym (puts_written heading marks (Write pe place v) page none) ∙ put.0,
        there put.1,
      )
        where
          there : In (tables heading marks) page ⊎ In (made heading marks (Write pe place v)) page
              → is_some (node page) ≡ true
          there (inl old) = from_tables page old
          there (inr new) = absurd (made_none heading marks (Write pe place v) none page new)
      from_written page (inr unclean) = absurd (made_none heading marks (Write pe place v) none page unclean.0)

      to_written : (page : ℕ) → writes page ≡ true → is_some (node page) ≡ true
          → IsBad heading marks (Write pe place v) page
      to_written page over there =
          inl (puts_written heading marks (Write pe place v) page none ∙ over, inl (to_tables page there))

      pub write_rule : (n : Node) (o : Option ℕ) → heading.words.isolated ≡ true
          → node_of heading Patterns marks (page_of place) ≡ Some n
          → LeastOf (λ page. (maps n.kind n.level v page ≡ true) × (is_some (node page) ≡ true)) o
          → table_mapped heading Patterns marks (Write pe place v) ≡ o
      write_rule n o on at f =
          least_bad heading marks (Write pe place v) on
          (λ page. (maps n.kind n.level v page ≡ true) × (is_some (node page) ≡ true))
          (λ page k. let w = from_written page k in (sym (inside_writes heading marks pe place v n page at) ∙ w.0, w.1))
          (λ page k. to_written page (inside_writes heading marks pe place v n page at ∙ k.0) k.1) o f

      pub outside_rule : node_of heading Patterns marks (page_of place) ≡ None
          → table_mapped heading Patterns marks (Write pe place v) ≡ None
      outside_rule at = by heading.words.isolated refl
        where
          by : (c : Bool) → heading.words.isolated ≡ c → table_mapped heading Patterns marks (Write pe place v) ≡ None
          by false k = off heading marks (Write pe place v) k
          by true k =
              least_bad heading marks (Write pe place v) k (λ page. ⊥)
              (λ page k. true≢false (sym (from_written page k).0 ∙ outside_writes heading marks pe place v page at))
              (λ page none. absurd none) None (λ page none. none)

  -- ---- an event that attaches pages and writes no leaf

  module _ (fit : AllFit heading h) (value : ℕ → ℕ) (same_value : SameValues h value) (e : Event)
      (proper : Proper heading) (kept : keeps heading Patterns h ≡ true)
      (unbroken : (rule : Rule) → rule ≢ TableMapped → breaks heading Patterns marks e rule ≡ None)
      (IsAdded : Node → Type 0) (mine : (m : Node) → Attaches heading Patterns marks e m → IsAdded m)
      (theirs : (m : Node) → IsAdded m → Attaches heading Patterns marks e m)
      (unwritten : (p : ℕ) → writes_over heading Patterns marks e p ≡ false) where
    abbrev put : ℕ → Bool
    put page = puts_over heading Patterns marks e page

    -- a place with a leaf is an address of a descriptor
    leaf_at : (n : Node) (place page : ℕ) → page_of place ≡ n.page → maps n.kind n.level (value_of h place) page ≡ true
        → is_at n.page place ≡ true
    leaf_at n place page inside m =
        is_at_page heading h fit n.page place
        (written_by heading Patterns marks place h (λ zero. true≢false (sym m
        ∙ (ap (λ v. maps n.kind n.level v page) zero ∙ zero_maps n.kind n.level page)))) inside

    over_from : (page : ℕ) → put page ≡ true → AttachedOver IsAdded value page
    over_from page k =
        elim ((b.attached_tables.puts h e proper kept unbroken page).0 k) [
          | inl over ↦ absurd (true≢false (sym over ∙ unwritten page))
          | inr a ↦ record {
            node = a.0;
            is_attached = mine a.0 a.1;
            place = a.2;
            inside = leaf_at a.0 a.2 page a.3 a.4;
            maps_page = ap (λ v. maps a.0.kind a.0.level v page) (same_value a.2) ∙ a.4;
          }
        ]

    over_to : (page : ℕ) → AttachedOver IsAdded value page → put page ≡ true
    over_to page a =
        (b.attached_tables.puts h e proper kept unbroken page).1 (inr (
          a.node,
          theirs a.node a.is_attached,
          a.place,
          at_page a.node.page a.place a.inside,
          ap (λ v. maps a.node.kind a.node.level v page) (sym (same_value a.place)) ∙ a.maps_page,
        ))

    pub attach : keeps heading Patterns (e ∷ h) ≡ true → ((p : ℕ) → initialises p e ≡ false)
        → (free free' : ℕ → Bool) (may may' : ℕ → ℕ → Bool) → CoversAttached IsAdded value free free' may may'
        → Guards heading h free may → Guards heading (e ∷ h) free' may'
    attach kept_too unmade free free' may may' covers g =
        step heading b h e proper kept_too free free' may may' g unmade
        (λ p. same_truth (free' p) (free p && not (put p)) (to p) (from p))
        (record {
          grows = covers.grows;
          written = λ pe place v n page is at m. absurd (true≢false (sym m
              ∙ (sym (inside_writes heading marks pe place v n page at)
              ∙ (ap (λ (x : Event). writes_over heading Patterns marks x page) (sym is) ∙ unwritten page))));
          attached = λ n place page a inside m.
              subst (λ (x : ℕ). may' x page ≡ true) (sym inside)
              (covers.own n place page (mine n a) (leaf_at n place page inside m)
              (ap (λ v. maps n.kind n.level v page) (same_value place) ∙ m));
        })
      where
        to : (p : ℕ) → free' p ≡ true → (free p && not (put p)) ≡ true
        to p k =
            let f = (covers.free p).0 k in
            and_from (free p) (not (put p)) f.0
            (not_from_false (put p) (false_from_ne_true (put p) (λ put. f.1 (over_from p put))))

        from : (p : ℕ) → (free p && not (put p)) ≡ true → free' p ≡ true
        from p k =
            let parts = and_parts (free p) (not (put p)) k in
            (covers.free p).1 (parts.0, λ over. true≢false (sym (over_to p over) ∙ not-true (put p) parts.1))

    module _ (node : ℕ → Option Node) (same : SameNodes heading h node) (free : ℕ → Bool) (may : ℕ → ℕ → Bool)
        (g : Guards heading h free may) where
      -- an attached page is free exactly where it is clean
      free_is : (m : Node) (page : ℕ) → Attaches heading Patterns marks e m → m.page ≡ page
          → free page ≡ is_clean heading Patterns marks page
      free_is m page a in_page =
          g.clean page (or_left (is_fresh heading Patterns marks page) (in_tree heading Patterns marks page)
          (subst (λ (x : ℕ). is_fresh heading Patterns marks x ≡ true) in_page (attached_fresh heading b h e m a)))

      made_by : (page : ℕ) → In (made heading marks e) page
          → (m : Node) × Attaches heading Patterns marks e m × (m.page ≡ page)
      made_by page i =
          (b.attached_tables.made h e proper kept unbroken page).0 (to_contains (made heading marks e) page i)

      made_of : (m : Node) (page : ℕ) → IsAdded m → m.page ≡ page → In (made heading marks e) page
      made_of m page a in_page =
          from_contains (made heading marks e) page
          ((b.attached_tables.made h e proper kept unbroken page).1 (m, theirs m a, in_page))

      from_attached : (page : ℕ) → IsBad heading marks e page → BadTable IsAdded value free node page
      from_attached page (inl k) = table k.1
        where
          table : In (tables heading marks) page ⊎ In (made heading marks e) page
              → BadTable IsAdded value free node page
          table (inl there) = BadTable.in_tree (from_tables node same page there) (over_from page k.0)
          table (inr new) = let m = made_by page new in BadTable.attached m.0 (mine m.0 m.1) m.2 (over_from page k.0)
      from_attached page (inr unclean) =
          let m = made_by page unclean.0 in
          BadTable.unclean m.0 (mine m.0 m.1) m.2 (free_is m.0 page m.1 m.2 ∙ unclean.1)

      to_attached : (page : ℕ) → BadTable IsAdded value free node page → IsBad heading marks e page
      to_attached page (BadTable.unclean m a in_page covered) =
          inr (made_of m page a in_page, sym (free_is m page (theirs m a) in_page) ∙ covered)
      to_attached page (BadTable.in_tree there over) = inl (over_to page over, inl (to_tables node same page there))
      to_attached page (BadTable.attached m a in_page over) = inl (over_to page over, inr (made_of m page a in_page))

      pub attach_rule : heading.words.isolated ≡ true → (o : Option ℕ) → LeastOf (BadTable IsAdded value free node) o
          → mapped_table heading Patterns marks e ≡ o
      attach_rule on o f =
          least_bad heading marks e on (BadTable IsAdded value free node) from_attached to_attached o f
