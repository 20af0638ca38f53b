-- What a TLBI covers, of the places of the trees page by page.
use Rattle.bbm_rules.proofs.Common.{◌≡◌, ℕ, Bool, true, false, ◌&&◌, ◌||◌, ◌==◌, cond, List, [], ◌∷◌, ◌++◌, filter}
use Rattle.bbm_rules.proofs.Common.{Option, Some, None, refl, sym, ◌∙◌, ap, subst, append_assoc, eqb-true, eq-eqb}
use Rattle.bbm_rules.proofs.Common.{or_parts, option_map_or, unwrap_or, is_valid, Cover, Half, Second, Full, cover_of, Scope}
use Rattle.bbm_rules.proofs.Common.{Heading, Event, Init, Null, Root, Unroot, Write, Dsb, Dmb, Isb, Tlbi, Msr, Lock}
use Rattle.bbm_rules.proofs.Common.{Unlock, Trust, ValidWrite, cleansed_everywhere, held, last_valid, last_valid_after}
use Rattle.bbm_rules.proofs.Common.{later, ◌>>=◌, among, any, with_number, Noted, events_of, page_of, Node, held_at}
use Rattle.bbm_rules.proofs.Common.{node_of, places_in, written_places}
use Rattle.std.specs.List.{flat_map}
use Rattle.bbm_tlbi_scope.specs.declared.entry.Cover.TheVariants.{None as NoCover}
use Rattle.bbm_rules.specs.Prelude.{Kind}
use Rattle.bbm_rules.specs.Covers.{cover_at, top_at, view_at}
use Rattle.bbm_rules.specs.Held.{emptied}
use Rattle.bbm_rules.specs.RegisterValues.{named_scope, vmid_of}
use Rattle.bbm_rules.specs.Tree.{region_of, tree}
use Rattle.bbm_tlbi_scope.specs.ScopeCovers.{at_end}
use Rattle.bbm_tlbi_scope.specs.declared.entry.PlaceView.{PlaceView}
use Rattle.bbm_tlbi_scope.specs.declared.op.TlbiOp.{TlbiOp}
use Rattle.bbm_oracle_patterns.specs.Kept.{cover_in}
use Rattle.bbm_oracle_patterns.specs.declared.kept.Covered.{Covered}
use Rattle.bbm_oracle_patterns.specs.declared.kept.Covering.{Covering}
use Rattle.bbm_oracle_patterns.specs.declared.kept.Covering.TheVariants.{Whole, Top}
use Rattle.bbm_oracle_trees.specs.Views.{cover_by, cover_for, cover_under, covers_of_page, entry_of, view_of}
use Rattle.bbm_oracle_trees.proofs.Finds.{found_passes}

-- ---- places that were never written hold nothing

true_false : {A : Type 0} (b : Bool) → b ≡ true → b ≡ false → A
true_false b e f = cc

-- a number that isn't in a list with one more is neither that one nor in the list
not_among_more : (q n : ℕ) (ms : List ℕ) → among q (with_number n ms) ≡ false →
    ((n == q) ≡ false) × (among q ms ≡ false)
not_among_more q n ms none = by_among (among n ms) refl none
  where
    by_same : (b : Bool) → (n == q) ≡ b → among n ms ≡ true → among q ms ≡ false → (n == q) ≡ false
    by_same true e there none = true_false (among q ms) (subst (λ (m : ℕ). among m ms ≡ true) (eqb-true n q e) there) none
    by_same false e there none = e

    by_among : (b : Bool) → among n ms ≡ b → among q (cond b ms (n ∷ ms)) ≡ false →
        ((n == q) ≡ false) × (among q ms ≡ false)
    by_among true there none = (by_same (n == q) refl there none, none)
    by_among false there none = or_parts (n == q) (among q ms) none

among_filter : (test : ℕ → Bool) (q : ℕ) (ms : List ℕ) → test q ≡ true → among q (filter test ms) ≡ among q ms
among_filter test q [] passes = refl
among_filter test q (m ∷ ms) passes = by_test (test m) refl (among_filter test q ms passes)
  where
    by_same : (b : Bool) → (m == q) ≡ b → test m ≡ false → among q ms ≡ (b || among q ms)
    by_same true e fails = true_false (test q) passes (subst (λ (n : ℕ). test n ≡ false) (eqb-true m q e) fails)
    by_same false e fails = refl

    by_test : (b : Bool) → test m ≡ b → among q (filter test ms) ≡ among q ms →
        among q (cond b (m ∷ filter test ms) (filter test ms)) ≡ ((m == q) || among q ms)
    by_test true e rest = ap (λ (b : Bool). (m == q) || b) rest
    by_test false e rest = rest ∙ by_same (m == q) refl e

module _ (kind : Kind) (level q : ℕ) where
  no_later : (n : Noted) (found : Option ValidWrite) → found ≡ None → later n found ≡ None
  no_later n found none = ap (later n) none

  not_this : (valid same : Bool) (w found : Option ValidWrite) → same ≡ false → found ≡ None → cond (same && valid) w found ≡ None
  not_this valid true w found e none = cc
  not_this valid false w found e none = none

  in_both : (b : Bool) (found : Option ValidWrite) → found ≡ None → cond b None found ≡ None
  in_both true found none = refl
  in_both false found none = none

  none_after : (e : Event) (n : Noted) (es : List Event) (found : Option ValidWrite) →
      (among q (written_places es) ≡ false → found ≡ None) → among q (written_places (e ∷ es)) ≡ false →
      last_valid_after kind level q e n found ≡ None
  none_after (Write pe at value) n es found before none =
      let parts : ((at == q) ≡ false) × (among q (written_places es) ≡ false) = not_among_more q at (written_places es) none in
      not_this (is_valid kind level value) (at == q) (Some (record { value = value; since = [] })) (later n found) parts.0
      (no_later n found (before parts.1))
  none_after (Init pe page) n es found before none =
      in_both (page == page_of q) (later n found) (no_later n found (before none))
  none_after (Null pe page) n es found before none = no_later n found (before none)
  none_after (Root pe kind' lock page) n es found before none = no_later n found (before none)
  none_after (Unroot pe page) n es found before none = no_later n found (before none)
  none_after (Dsb pe dsb) n es found before none = no_later n found (before none)
  none_after (Dmb pe dsb) n es found before none = no_later n found (before none)
  none_after (Isb pe) n es found before none = no_later n found (before none)
  none_after (Tlbi pe op xt) n es found before none = no_later n found (before none)
  none_after (Msr pe reg value) n es found before none = no_later n found (before none)
  none_after (Lock pe lock) n es found before none = no_later n found (before none)
  none_after (Unlock pe lock) n es found before none = no_later n found (before none)

  pub none_valid : (h : List Noted) → among q (written_places (events_of h)) ≡ false → last_valid kind level q h ≡ None
  none_valid [] none = refl
  none_valid (n ∷ h) none = none_after n.event n (events_of h) (last_valid kind level q h) (none_valid h) none

  none_held : (heading : Heading) (trust : Trust) (h : List Noted) (page : ℕ) → page ≡ page_of q →
      among q (places_in (events_of h) page) ≡ false → held heading trust kind level q h ≡ None
  none_held heading trust h page same none =
      let passes : (page_of q == page) ≡ true = eq-eqb (page_of q) page (sym same) in
      ap (λ (w : Option ValidWrite). w >>= (λ v. cond (emptied heading trust kind level q h
      || cleansed_everywhere heading trust q v.since) None (Some v.value)))
      (none_valid h (sym (among_filter (λ place. page_of place == page) q (written_places (events_of h)) passes) ∙ none))

-- ---- the list of covers

module _ (f : ℕ → Cover) where
  abbrev entry : ℕ → List Covered
  entry p = entry_of p (f p)

  -- the first of two that is a cover
  abbrev or_cover : Cover → Cover → Cover
  or_cover NoCover more = more
  or_cover Half more = Half
  or_cover Second more = Second
  or_cover Full more = Full

  entry_read : (p q : ℕ) (c : Cover) (more : List Covered) →
      cover_in (entry_of p c ++ more) q ≡ cond (p == q) (or_cover c (cover_in more q)) (cover_in more q)
  entry_read p q NoCover more = same (p == q)
    where
      same : (b : Bool) → cover_in more q ≡ cond b (cover_in more q) (cover_in more q)
      same true = refl
      same false = refl
  entry_read p q Half more = refl
  entry_read p q Second more = refl
  entry_read p q Full more = refl

  twice : (c d : Cover) → or_cover c (or_cover c d) ≡ or_cover c d
  twice NoCover d = refl
  twice Half d = refl
  twice Second d = refl
  twice Full d = refl

  in_places : (ps : List ℕ) (more : List Covered) (q : ℕ) →
      cover_in (flat_map entry ps ++ more) q ≡ cond (among q ps) (or_cover (f q) (cover_in more q)) (cover_in more q)
  in_places [] more q = refl
  in_places (p ∷ ps) more q =
      ap (λ (cs : List Covered). cover_in cs q) (append_assoc (entry p) (flat_map entry ps) more)
      ∙ entry_read p q (f p) (flat_map entry ps ++ more)
      ∙ ap (λ (c : Cover). cond (p == q) (or_cover (f p) c) c) (in_places ps more q)
      ∙ by_same (p == q) refl (among q ps)
    where
      by_among : (b : Bool) → or_cover (f q) (cond b (or_cover (f q) (cover_in more q)) (cover_in more q))
          ≡ or_cover (f q) (cover_in more q)
      by_among true = twice (f q) (cover_in more q)
      by_among false = refl

      by_same : (b : Bool) → (p == q) ≡ b → (a : Bool) →
          cond b (or_cover (f p) (cond a (or_cover (f q) (cover_in more q)) (cover_in more q)))
          (cond a (or_cover (f q) (cover_in more q)) (cover_in more q))
          ≡ cond (b || a) (or_cover (f q) (cover_in more q)) (cover_in more q)
      by_same true e a =
          ap (λ (m : ℕ). or_cover (f m) (cond a (or_cover (f q) (cover_in more q)) (cover_in more q))) (eqb-true p q e)
          ∙ by_among a
      by_same false e a = refl

  in_pages : (g : Node → List ℕ) (ns : List Node) (q : ℕ) →
      cover_in (flat_map (λ n. flat_map entry (g n)) ns) q ≡ cond (any (λ n. among q (g n)) ns) (f q) NoCover
  in_pages g [] q = refl
  in_pages g (n ∷ ns) q =
      in_places (g n) (flat_map (λ m. flat_map entry (g m)) ns) q
      ∙ ap (λ (c : Cover). cond (among q (g n)) (or_cover (f q) c) c) (in_pages g ns q)
      ∙ joined (among q (g n)) (any (λ m. among q (g m)) ns) (f q)
    where
      joined : (a b : Bool) (c : Cover) → cond a (or_cover c (cond b c NoCover)) (cond b c NoCover) ≡ cond (a || b) c NoCover
      joined true true NoCover = refl
      joined true false NoCover = refl
      joined true b Half = refl
      joined true b Second = refl
      joined true b Full = refl
      joined false b c = refl

-- ---- what a TLBI covers

module _ (heading : Heading) (trust : Trust) (h : List Noted) (covering : Covering) (scope : Scope) (vmid : Option ℕ) where
  -- of a place of a page in a tree
  abbrev pub cover_at_node : Node → ℕ → Option ℕ → Cover
  cover_at_node n place held =
      option_map_or (λ value. cover_by covering scope vmid (view_of heading trust h n place value)) held NoCover

  pub cover_under_node : (place : ℕ) (found : Option Node) (n : Node) → node_of heading trust h (page_of place) ≡ found →
      found ≡ Some n →
      cover_at_node n place (held_at heading trust h n place) ≡ cover_under heading trust h covering scope vmid place
  cover_under_node place found n found_is is =
      by_held (held_at heading trust h n place)
      ∙ sym (ap (λ (o : Option Node). option_map_or (cover_by covering scope vmid)
      (o >>= (λ m. held_at heading trust h m place >>= (λ value. Some (view_of heading trust h m place value)))) NoCover) (found_is ∙ is))
    where
      by_held : (o : Option ℕ) → cover_at_node n place o
          ≡ option_map_or (cover_by covering scope vmid) (o >>= (λ value. Some (view_of heading trust h n place value))) NoCover
      by_held None = refl
      by_held (Some value) = refl

  -- of a place in no tree
  pub cover_under_none : (place : ℕ) → node_of heading trust h (page_of place) ≡ None →
      NoCover ≡ cover_under heading trust h covering scope vmid place
  cover_under_none place none =
      sym (ap (λ (o : Option Node). option_map_or (cover_by covering scope vmid)
      (o >>= (λ m. held_at heading trust h m place >>= (λ value. Some (view_of heading trust h m place value)))) NoCover) none)

  -- of a place that was never written
  not_written : (q : ℕ) → any (λ n. among q (places_in (events_of h) n.page)) (tree heading trust h) ≡ false →
      cover_under heading trust h covering scope vmid q ≡ NoCover
  not_written q none = by_node (node_of heading trust h (page_of q)) refl
    where
      by_node : (found : Option Node) → node_of heading trust h (page_of q) ≡ found
          → cover_under heading trust h covering scope vmid q ≡ NoCover
      by_node None e = sym (cover_under_none q e)
      by_node (Some n) e =
          let passes : ((n.page == page_of q) ≡ true) × (among q (places_in (events_of h) n.page) ≡ false) =
          found_passes (λ (m : Node). m.page == page_of q) (λ (m : Node). among q (places_in (events_of h) m.page))
          (tree heading trust h) n e none in
          sym (cover_under_node q (Some n) n e refl)
          ∙ ap (cover_at_node n q) (none_held n.kind n.level q heading trust h n.page (eqb-true n.page (page_of q) passes.0) passes.1)

  -- of every place: what the list of the places of the trees says
  pub covers_right : (q : ℕ) → cover_in (flat_map (covers_of_page heading trust h covering scope vmid) (tree heading trust h)) q
      ≡ cover_under heading trust h covering scope vmid q
  covers_right q =
      in_pages (cover_under heading trust h covering scope vmid) (λ n. places_in (events_of h) n.page) (tree heading trust h) q
      ∙ by_written (any (λ n. among q (places_in (events_of h) n.page)) (tree heading trust h)) (not_written q)
    where
      by_written : (b : Bool) → (b ≡ false → cover_under heading trust h covering scope vmid q ≡ NoCover) →
          cond b (cover_under heading trust h covering scope vmid q) NoCover ≡ cover_under heading trust h covering scope vmid q
      by_written true none = refl
      by_written false none = sym (none refl)

  -- of a place whose region it misses
  pub cover_missed : (n : Node) (place : ℕ) (held : Option ℕ)
      → ((w : Option ℕ) (v : PlaceView) → v.region ≡ region_of n place → cover_of scope w v ≡ NoCover)
      → NoCover ≡ cover_at_node n place held
  cover_missed n place None misses = refl
  cover_missed n place (Some value) misses = sym (by covering)
    where
      by : (c : Covering) → cover_by c scope vmid (view_of heading trust h n place value) ≡ NoCover
      by Whole = misses vmid (view_of heading trust h n place value) refl
      by Top = misses vmid (at_end (view_of heading trust h n place value)) refl

module _ (heading : Heading) (trust : Trust) (h : List Noted) where
  -- of each event: its covers, and its top covers
  pub whole_covers : (e : Event) (place : ℕ) → cover_for heading trust h Whole e place ≡ cover_at heading trust h e place
  whole_covers (Tlbi pe op xt) place = refl
  whole_covers e place = refl

  pub top_covers : (e : Event) (place : ℕ) → cover_for heading trust h Top e place ≡ top_at heading trust h e place
  top_covers (Tlbi pe op xt) place = refl
  top_covers e place = refl

  -- a TLBI that names this scope
  pub named_covers : (covering : Covering) (pe : ℕ) (op : TlbiOp) (xt : ℕ) (scope : Scope) (place : ℕ)
      → named_scope heading (events_of h) pe op xt ≡ Some scope
      → cover_under heading trust h covering scope (vmid_of heading (events_of h) pe) place
      ≡ cover_for heading trust h covering (Tlbi pe op xt) place
  named_covers covering pe op xt scope place named =
      by_view scope (view_at heading trust h place)
      ∙ sym (ap (λ (o : Option Scope). unwrap_or (o >>= (λ s. view_at heading trust h place >>= (λ view.
      Some (cover_by covering s (vmid_of heading (events_of h) pe) view)))) NoCover) named)
    where
      by_view : (s : Scope) (o : Option PlaceView)
          → option_map_or (cover_by covering s (vmid_of heading (events_of h) pe)) o NoCover
          ≡ unwrap_or (o >>= (λ view. Some (cover_by covering s (vmid_of heading (events_of h) pe) view))) NoCover
      by_view s None = refl
      by_view s (Some view) = refl
