-- Trees, limbo, childless, fresh and paths are what the sentences say.
use Rattle.bbm_rules.proofs.Common.{option_map_or, ◌≡◌, ℕ, zero, suc, ◌<◌, ◌≤◌, not, Bool, true, false, cond, ◌==◌}
use Rattle.bbm_rules.proofs.Common.{List, [], ◌∷◌, ◌++◌, length, Option, Some, None, is_some, Contains, flat_map}
use Rattle.bbm_rules.proofs.Common.{filter_map, refl, sym, ◌∙◌, ap, subst, inl, inr, true≢false, arith, and_from}
use Rattle.bbm_rules.proofs.Common.{and_parts, eq-eqb, eqb-true, or_cases, or_left, or_right, not-true, not_from_false}
use Rattle.bbm_rules.proofs.Common.{Kind, Form, desc_as, is_valid, type_bits, In, any_finds, any_found, from_contains}
use Rattle.bbm_rules.proofs.Common.{from_filter, is_none_of, none_of, to_contains, to_filter, to_flat, End, end_at}
use Rattle.bbm_rules.proofs.Common.{ends_below, Trust, held, any, Noted, events_of, is_fresh, may_be_fresh, page_of}
use Rattle.bbm_rules.proofs.Common.{roots_of, start_of, Node, held_at, in_limbo, in_tree, is_childless, next_in}
use Rattle.bbm_rules.proofs.Common.{next_of, node_below, node_of, nodes_of_root, Above, Childless, Down, IsNode}
use Rattle.bbm_rules.proofs.Common.{places_in, value_of, written_places}
use Rattle.bbm_events.specs.Heading.{Heading}
use Rattle.bbm_events.specs.declared.event.Event.{Event}
use Rattle.bbm_events.specs.declared.event.Event.TheVariants.{Init, Null, Write}
use Rattle.bbm_rules.proofs.HeldLemmas.{held_is_written, written_here, written_stays}
use Rattle.bbm_lemmas.proofs.Elements.{from_filter_map, from_flat, to_filter_map}
use Rattle.bbm_rules.proofs.TreeLemmas.{Child, InTree, Rooted, at_level, at_start, child_at_level, from_tree, has_node}
use Rattle.bbm_rules.proofs.TreeLemmas.{level_is, node_found, root_at_level, to_tree}
use Rattle.bbm_rules.specs.Tree.{holds_some, nodes_at, tree}
use Rattle.bbm_rules.specs.TreeSentences.{InLimbo, IsFresh, Leads}

-- ---- limbo

pub limbo_sound : (h : List Noted) (n : Node) → in_limbo h n ≡ true → InLimbo h n
limbo_sound h n k =
    let f = any_found (λ (a : Above). not (is_valid n.kind a.level (value_of (events_of h) a.place))) n.above k in
    record {
      above = f.0;
      is_above = to_contains n.above f.0 f.1;
      invalid = not-true (is_valid n.kind f.0.level (value_of (events_of h) f.0.place)) f.2;
    }

pub limbo_complete : (h : List Noted) (n : Node) → InLimbo h n → in_limbo h n ≡ true
limbo_complete h n k =
    any_finds (λ (a : Above). not (is_valid n.kind a.level (value_of (events_of h) a.place))) n.above k.above (from_contains n.above k.above k.is_above)
    (not_from_false (is_valid n.kind k.above.level (value_of (events_of h) k.above.place)) k.invalid)

-- a table stands above level 3
pub table_level : (kind : Kind) (level value next : ℕ) → next_of kind level value ≡ Some next → level < 3
table_level kind zero value next e = omega arith
table_level kind (suc zero) value next e = omega arith
table_level kind (suc (suc zero)) value next e = omega arith
table_level kind (suc (suc (suc level))) value next e = absurd (by (type_bits value == 3) (type_bits value == 1) e)
  where
    by : (b c : Bool) → next_in (desc_as (cond b Form.leaf (cond c Form.invalid Form.invalid)) kind (suc (suc (suc level))) value) ≡ Some next → ⊥
    by true c e = cc
    by false true e = cc
    by false false e = cc

module _ (heading : Heading) (trust : Trust) (h : List Noted) where
  -- ---- trees

  -- one place more at the end of a path
  further : (places : List ℕ) (n m c : Node) → Down heading trust h n places m → Child heading trust h m c
      → (more : List ℕ) × Down heading trust h n more c
  further [] n m c same k =
      let child : Child heading trust h n c = subst (λ (x : Node). Child heading trust h x c) (sym same) k in
      (child.place ∷ [], (child.inside, child.value, child.holds, c.page, child.next, child.made))
  further (place ∷ places) n m c d k =
      let r = further places (node_below n place d.3) m c d.5 k in
      (place ∷ r.0, (d.0, d.1, d.2, d.3, d.4, r.1))

  from_root : (m : Node) (level : ℕ) → Rooted heading h level m → m.level < 4 → IsNode heading trust h m
  from_root m level r below = record {
    root = r.root;
    declared = to_contains (roots_of (events_of h)) r.root r.declared;
    start = m;
    is_start = to_contains (nodes_of_root heading r.root) m r.page_of_it;
    places = [];
    down = refl;
    level = below;
  }

  path_to : (level : ℕ) (m : Node) → level < 4 → In (nodes_at heading trust h level) m → IsNode heading trust h m
  path_to zero m below i =
      from_root m zero (at_start heading trust h m i)
      (subst (λ (x : ℕ). x < 4) (sym (level_is heading trust h zero m i)) below)
  path_to (suc level) m below i =
      let at : m.level < 4 = subst (λ (x : ℕ). x < 4) (sym (level_is heading trust h (suc level) m i)) below in
      elim (at_level heading trust h level m i) [
        | inl r ↦ from_root m (suc level) r at
        | inr (p, there, child) ↦
            let above : IsNode heading trust h p = path_to level p (omega arith) there in
            let r = further above.places above.start p m above.down child in
            record {
              root = above.root;
              declared = above.declared;
              start = above.start;
              is_start = above.is_start;
              places = r.0;
              down = r.1;
              level = at;
            }
      ]

  pub tree_sound : (m : Node) → Contains (tree heading trust h) m → IsNode heading trust h m
  tree_sound m c =
      let t : InTree heading trust h m = from_tree heading trust h m (from_contains (tree heading trust h) m c) in
      path_to t.level m t.below t.there

  down_to : (places : List ℕ) (level : ℕ) (n m : Node) → In (nodes_at heading trust h level) n
      → Down heading trust h n places m → (l : ℕ) × In (nodes_at heading trust h l) m
  down_to [] level n m i same = (level, subst (λ (x : Node). In (nodes_at heading trust h level) x) same i)
  down_to (place ∷ places) level n m i d =
      down_to places (suc level) (node_below n place d.3) m
      (child_at_level heading trust h level n (node_below n place d.3) i (record {
        place = place;
        value = d.1;
        inside = d.0;
        holds = d.2;
        next = d.4;
        made = refl;
        kind = refl;
        level = refl;
      })) d.5

  pub tree_complete : (m : Node) → IsNode heading trust h m → Contains (tree heading trust h) m
  tree_complete m k =
      let level : ℕ = start_of heading.world k.root.kind in
      let first : In (nodes_at heading trust h (start_of heading.world k.root.kind)) k.start
      = root_at_level heading trust h (start_of heading.world k.root.kind) k.start (record {
        root = k.root;
        declared = from_contains (roots_of (events_of h)) k.root k.declared;
        start = refl;
        page_of_it = from_contains (nodes_of_root heading k.root) k.start k.is_start;
      }) in
      let r = down_to k.places (start_of heading.world k.root.kind) k.start m first k.down in
      to_contains (tree heading trust h) m (to_tree heading trust h m (record {
        level = r.0;
        below = subst (λ (x : ℕ). x < 4) (level_is heading trust h r.0 m r.1) k.level;
        there = r.1;
      }))

  -- ---- the page below a place, and the node that is taken for a page

  pub tree_below : (n : Node) (place value next : ℕ) → Contains (tree heading trust h) n → page_of place ≡ n.page
      → held_at heading trust h n place ≡ Some value → next_of n.kind n.level value ≡ Some next
      → Contains (tree heading trust h) (node_below n place next)
  tree_below n place value next c inside holds link =
      let t : InTree heading trust h n = from_tree heading trust h n (from_contains (tree heading trust h) n c) in
      let same : n.level ≡ t.level = level_is heading trust h t.level n t.there in
      let above : n.level < 3 = table_level n.kind n.level value next link in
      to_contains (tree heading trust h) (node_below n place next) (to_tree heading trust h (node_below n place next) (record {
        level = suc t.level;
        below = omega arith;
        there = child_at_level heading trust h t.level n (node_below n place next) t.there (record {
          place = place;
          value = value;
          inside = inside;
          holds = holds;
          next = link;
          made = refl;
          kind = refl;
          level = refl;
        });
      }))

  pub node_taken : (page : ℕ) (n : Node) → node_of heading trust h page ≡ Some n
      → Contains (tree heading trust h) n × (n.page ≡ page)
  node_taken page n e =
      let r = node_found heading trust h n page e in
      (to_contains (tree heading trust h) n (to_tree heading trust h n r.0), r.1)

  pub tree_has : (n : Node) → Contains (tree heading trust h) n → in_tree heading trust h n.page ≡ true
  tree_has n c = has_node heading trust h n n.page (from_tree heading trust h n (from_contains (tree heading trust h) n c)) refl

  -- ---- childless

  holds_by : (kind : Kind) (level next place : ℕ) (o : Option ℕ) → held heading trust kind level place h ≡ o
      → any (holds_some heading trust h kind level) (places_in (events_of h) next) ≡ false → page_of place ≡ next → o ≡ None
  holds_by kind level next place None e none inside = refl
  holds_by kind level next place (Some v) e none inside =
      absurd (true≢false (sym (ap is_some e)
      ∙ none_of (holds_some heading trust h kind level) (places_in (events_of h) next) none place
      (to_filter (λ (place : ℕ). page_of place == next) (written_places (events_of h)) place (held_is_written heading trust place kind level h v e)
      (eq-eqb (page_of place) next inside))))

  -- whether no place of the next page holds anything, where there is one
  abbrev childless_below : Node → Option ℕ → Bool
  childless_below n o =
      option_map_or (λ next. not (any (holds_some heading trust h n.kind (suc n.level)) (places_in (events_of h) next))) o false

  childless_by : (n : Node) (value : ℕ) (o : Option ℕ) → next_of n.kind n.level value ≡ o
      → childless_below n o ≡ true → Childless heading trust h n value
  childless_by n value None e k = absurd (true≢false (sym k))
  childless_by n value (Some next) e k = record {
    next = next;
    table = e;
    holds_none = λ place inside.
        holds_by n.kind (suc n.level) next place (held heading trust n.kind (suc n.level) place h) refl
        (not-true (any (holds_some heading trust h n.kind (suc n.level)) (places_in (events_of h) next)) k) inside;
  }

  pub childless_sound : (n : Node) (value : ℕ) → is_childless heading trust h n value ≡ true → Childless heading trust h n value
  childless_sound n value k = childless_by n value (next_of n.kind n.level value) refl k

  pub childless_complete : (n : Node) (value : ℕ) → Childless heading trust h n value
      → is_childless heading trust h n value ≡ true
  childless_complete n value k =
      ap (childless_below n) k.table
      ∙ not_from_false (any (holds_some heading trust h n.kind (suc n.level)) (places_in (events_of h) k.next))
      (is_none_of (holds_some heading trust h n.kind (suc n.level)) (places_in (events_of h) k.next)
      (λ place i. ap is_some (k.holds_none place
      (eqb-true (page_of place) k.next (from_filter (λ (place : ℕ). page_of place == k.next) (written_places (events_of h)) place i).1))))

  -- ---- paths of attached pages

  -- the end of the path of no places, and those of the longer ones
  abbrev pub ends_from : Kind → ℕ → ℕ → ℕ → List End
  ends_from kind left level page = end_at level page ∷ ends_below heading trust h kind left level page

  pub below_fresh : (kind : Kind) (left level page : ℕ) → is_fresh heading trust h page ≡ true
      → ends_below heading trust h kind (suc left) level page
      ≡ flat_map (ends_from kind left (suc level)) (filter_map (λ (place : ℕ). next_of kind level (value_of (events_of h) place)) (places_in (events_of h) page))
  below_fresh kind left level page fresh = rw (fresh, ends_below) refl

  unreached : (kind : Kind) (left level page : ℕ) → is_fresh heading trust h page ≡ false
      → ends_below heading trust h kind (suc left) level page ≡ []
  unreached kind left level page fresh = rw (fresh, ends_below) refl

  below_by : (kind : Kind) (left level page : ℕ) (e : End) (b : Bool) → is_fresh heading trust h page ≡ b
      → In (ends_below heading trust h kind (suc left) level page) e
      → (is_fresh heading trust h page ≡ true) × In (flat_map (ends_from kind left (suc level))
      (filter_map (λ (place : ℕ). next_of kind level (value_of (events_of h) place)) (places_in (events_of h) page))) e
  below_by kind left level page e true fresh i =
      (fresh, subst (λ (es : List End). In es e) (below_fresh kind left level page fresh) i)
  below_by kind left level page e false fresh i =
      absurd (subst (λ (es : List End). In es e) (unreached kind left level page fresh) i)

  pub path_from : (left : ℕ) (kind : Kind) (level page : ℕ) (e : End) → In (ends_from kind left level page) e
      → (places : List ℕ) × (length places ≤ left) × Leads heading trust h kind level page places e
  path_from left kind level page e (inl same) = ([], omega arith, same)
  path_from zero kind level page e (inr i) = absurd i
  path_from (suc left) kind level page e (inr i) =
      let b = below_by kind left level page e (is_fresh heading trust h page) refl i in
      let next = from_flat (ends_from kind left (suc level))
      (filter_map (λ (place : ℕ). next_of kind level (value_of (events_of h) place)) (places_in (events_of h) page)) e b.1 in
      let place = from_filter_map (λ (place : ℕ). next_of kind level (value_of (events_of h) place)) (places_in (events_of h) page) next.0 next.1 in
      let inside = from_filter (λ (place : ℕ). page_of place == page) (written_places (events_of h)) place.0 place.1 in
      let r = path_from left kind (suc level) next.0 e next.2 in
      let short = r.1 in
      (place.0 ∷ r.0, omega arith, (b.0, eqb-true (page_of place.0) page inside.1, next.0, place.2, r.2))

  -- a place with a table value was written
  pub written_by : (place : ℕ) (es : List Event) → (value_of es place ≡ 0 → ⊥) → In (written_places es) place
  written_by place [] some = absurd (some refl)
  written_by place (Write pe at value ∷ es) some = by (at == place) refl (written_by place es)
    where
      by : (b : Bool) → (at == place) ≡ b → ((value_of es place ≡ 0 → ⊥) → In (written_places es) place)
          → In (written_places (Write pe at value ∷ es)) place
      by true here before =
          subst (λ (x : ℕ). In (written_places (Write pe at value ∷ es)) x) (eqb-true at place here) (written_here pe at value es)
      by false there before =
          written_stays (Write pe at value) es place
          (before (λ z. some (ap (λ (b : Bool). cond b value (value_of es place)) there ∙ z)))
  written_by place (Init pe page ∷ es) some = by (page == page_of place) refl (written_by place es)
    where
      by : (b : Bool) → (page == page_of place) ≡ b → ((value_of es place ≡ 0 → ⊥) → In (written_places es) place)
          → In (written_places es) place
      by true here before = absurd (some (ap (λ (b : Bool). cond b 0 (value_of es place)) here))
      by false there before = before (λ z. some (ap (λ (b : Bool). cond b 0 (value_of es place)) there ∙ z))
  written_by place (e ∷ es) some = written_by place es some

  no_table : (kind : Kind) (level next : ℕ) → next_of kind level 0 ≡ Some next → ⊥
  no_table kind level next e = cc

  -- the place of a table value is one of those of its page
  pub place_of_table : (kind : Kind) (level page place next : ℕ) → page_of place ≡ page
      → next_of kind level (value_of (events_of h) place) ≡ Some next → In (places_in (events_of h) page) place
  place_of_table kind level page place next inside table =
      to_filter (λ (place : ℕ). page_of place == page) (written_places (events_of h)) place
      (written_by place (events_of h) (λ z. no_table kind level next
      (subst (λ (x : ℕ). next_of kind level x ≡ Some next) z table))) (eq-eqb (page_of place) page inside)

  -- the end of a path of one place more
  pub one_more : (left : ℕ) (kind : Kind) (level page place : ℕ) (places : List ℕ) (e : End)
      → (l : Leads heading trust h kind level page (place ∷ places) e) → In (ends_from kind left (suc level) l.2) e
      → In (ends_below heading trust h kind (suc left) level page) e
  one_more left kind level page place places e l i =
      subst (λ (es : List End). In es e) (sym (below_fresh kind left level page l.0))
      (to_flat (ends_from kind left (suc level))
      (filter_map (λ (place : ℕ). next_of kind level (value_of (events_of h) place)) (places_in (events_of h) page)) l.2 e
      (to_filter_map (λ (place : ℕ). next_of kind level (value_of (events_of h) place)) (places_in (events_of h) page) place l.2
      (place_of_table kind level page place l.2 l.1 l.3) l.3) i)

  pub path_to_end : (left : ℕ) (kind : Kind) (level page : ℕ) (places : List ℕ) (e : End) → length places ≤ left
      → Leads heading trust h kind level page places e → In (ends_from kind left level page) e
  path_to_end left kind level page [] e short same = inl same
  path_to_end zero kind level page (place ∷ places) e short l = absurd (omega arith)
  path_to_end (suc left) kind level page (place ∷ places) e short l =
      inr (one_more left kind level page place places e l (path_to_end left kind (suc level) l.2 places e (omega arith) l.4))

  pub paths_sound : (left : ℕ) (kind : Kind) (level page : ℕ) (e : End)
      → Contains (end_at level page ∷ ends_below heading trust h kind left level page) e
      → (places : List ℕ) × (length places ≤ left) × Leads heading trust h kind level page places e
  paths_sound left kind level page e c = path_from left kind level page e (from_contains (ends_from kind left level page) e c)

  pub paths_complete : (left : ℕ) (kind : Kind) (level page : ℕ) (places : List ℕ) (e : End) → length places ≤ left
      → Leads heading trust h kind level page places e
      → Contains (end_at level page ∷ ends_below heading trust h kind left level page) e
  paths_complete left kind level page places e short l =
      to_contains (ends_from kind left level page) e (path_to_end left kind level page places e short l)

-- ---- fresh

module _ (heading : Heading) (trust : Trust) where
  fresh_now : (n : Noted) (h : List Noted) (page pe : ℕ) → n.event ≡ Init pe page → in_tree heading trust (n ∷ h) page ≡ false
      → IsFresh heading trust (n ∷ h) page
  fresh_now n h page pe made none = record {
    pe = pe;
    init = n;
    newer = [];
    older = h;
    split = refl;
    made = made;
    in_none = λ after moment i. at after moment i;
    no_null = λ q m after before i. absurd (nothing m after before i);
  }
    where
      at : (after moment : List Noted) → [] ≡ after ++ moment → in_tree heading trust (moment ++ n ∷ h) page ≡ false
      at [] moment i = subst (λ (xs : List Noted). in_tree heading trust (xs ++ n ∷ h) page ≡ false) i none
      at (x ∷ after) moment i = cc

      nothing : (m : Noted) (after before : List Noted) → [] ≡ after ++ m ∷ before → ⊥
      nothing m [] before i = cc
      nothing m (x ∷ after) before i = cc

  still_fresh : (n : Noted) (h : List Noted) (page : ℕ) → ((q : ℕ) → n.event ≡ Null q page → ⊥)
      → in_tree heading trust (n ∷ h) page ≡ false → IsFresh heading trust h page → IsFresh heading trust (n ∷ h) page
  still_fresh n h page no_null none f = record {
    pe = f.pe;
    init = f.init;
    newer = n ∷ f.newer;
    older = f.older;
    split = ap (λ (xs : List Noted). n ∷ xs) f.split;
    made = f.made;
    in_none = λ after moment i. at after moment i;
    no_null = λ q m after before i is. null_at q m after before i is;
  }
    where
      at : (after moment : List Noted) → n ∷ f.newer ≡ after ++ moment
          → in_tree heading trust (moment ++ f.init ∷ f.older) page ≡ false
      at [] moment i =
          subst (λ (xs : List Noted). in_tree heading trust (xs ++ f.init ∷ f.older) page ≡ false) i
          (subst (λ (xs : List Noted). in_tree heading trust (n ∷ xs) page ≡ false) f.split none)
      at (x ∷ after) moment i = let rest : f.newer ≡ after ++ moment = cc in f.in_none after moment rest

      null_at : (q : ℕ) (m : Noted) (after before : List Noted) → n ∷ f.newer ≡ after ++ m ∷ before → m.event ≡ Null q page → ⊥
      null_at q m [] before i is = let first : n ≡ m = cc in no_null q (ap (λ (x : Noted). x.event) first ∙ is)
      null_at q m (x ∷ after) before i is = let rest : f.newer ≡ after ++ m ∷ before = cc in f.no_null q m after before rest is

  fresh_by : (e : Event) (n : Noted) (h : List Noted) (page : ℕ) (before : Bool) → n.event ≡ e → may_be_fresh e page before ≡ true
      → in_tree heading trust (n ∷ h) page ≡ false → (before ≡ true → IsFresh heading trust h page)
      → IsFresh heading trust (n ∷ h) page
  fresh_by (Init pe at) n h page before change k none old =
      elim (or_cases (at == page) before k) [
        | inl here ↦ fresh_now n h page pe (change ∙ ap (Init pe) (eqb-true at page here)) none
        | inr there ↦ still_fresh n h page (λ q is. let apart : Init pe at ≡ Null q page = sym change ∙ is in cc) none (old there)
      ]
  fresh_by (Null pe at) n h page before change k none old =
      let parts = and_parts (not (at == page)) before k in
      still_fresh n h page
      (λ q is. let one : Null pe at ≡ Null q page = sym change ∙ is in let same : at ≡ page = cc in
      true≢false (sym (eq-eqb at page same) ∙ not-true (at == page) parts.0)) none (old parts.1)
  fresh_by (Write pe at value) n h page before change k none old =
      still_fresh n h page (λ q is. let apart : Write pe at value ≡ Null q page = sym change ∙ is in cc) none (old k)
  fresh_by e n h page before change k none old =
      still_fresh n h page (λ q is. let apart : e ≡ Null q page = sym change ∙ is in cc) none (old k)

  pub fresh_sound : (h : List Noted) (page : ℕ) → is_fresh heading trust h page ≡ true → IsFresh heading trust h page
  fresh_sound [] page k = absurd (true≢false (sym k))
  fresh_sound (n ∷ h) page k =
      let parts = and_parts (may_be_fresh n.event page (is_fresh heading trust h page)) (not (in_tree heading trust (n ∷ h) page)) k in
      fresh_by n.event n h page (is_fresh heading trust h page) refl parts.0
      (not-true (in_tree heading trust (n ∷ h) page) parts.1) (fresh_sound h page)

  keeps_fresh : (e : Event) (page : ℕ) (before : Bool) → ((q : ℕ) → e ≡ Null q page → ⊥) → before ≡ true
      → may_be_fresh e page before ≡ true
  keeps_fresh (Init pe at) page before no_null k = or_right (at == page) before k
  keeps_fresh (Null pe at) page before no_null k = and_from (not (at == page)) before (by (at == page) refl) k
    where
      by : (b : Bool) → (at == page) ≡ b → not b ≡ true
      by true same = absurd (no_null pe (ap (Null pe) (eqb-true at page same)))
      by false other = refl
  keeps_fresh e page before no_null k = k

  fresh_from : (newer older : List Noted) (init : Noted) (page pe : ℕ) → init.event ≡ Init pe page
      → ((after moment : List Noted) → newer ≡ after ++ moment
      → in_tree heading trust (moment ++ init ∷ older) page ≡ false)
      → ((q : ℕ) (n : Noted) (after before : List Noted) → newer ≡ after ++ n ∷ before → n.event ≡ Null q page → ⊥)
      → is_fresh heading trust (newer ++ init ∷ older) page ≡ true
  fresh_from [] older init page pe made in_none no_null =
      and_from (may_be_fresh init.event page (is_fresh heading trust older page)) (not (in_tree heading trust (init ∷ older) page))
      (subst (λ (e : Event). may_be_fresh e page (is_fresh heading trust older page) ≡ true) (sym made)
      (or_left (page == page) (is_fresh heading trust older page) (eq-eqb page page refl)))
      (not_from_false (in_tree heading trust (init ∷ older) page) (in_none [] [] refl))
  fresh_from (n ∷ newer) older init page pe made in_none no_null =
      and_from (may_be_fresh n.event page (is_fresh heading trust (newer ++ init ∷ older) page))
      (not (in_tree heading trust (n ∷ newer ++ init ∷ older) page))
      (keeps_fresh n.event page (is_fresh heading trust (newer ++ init ∷ older) page)
      (λ q is. no_null q n [] newer refl is)
      (fresh_from newer older init page pe made
      (λ after moment i. in_none (n ∷ after) moment (ap (λ (xs : List Noted). n ∷ xs) i))
      (λ q m after before i is. no_null q m (n ∷ after) before (ap (λ (xs : List Noted). n ∷ xs) i) is)))
      (not_from_false (in_tree heading trust (n ∷ newer ++ init ∷ older) page) (in_none [] (n ∷ newer) refl))

  pub fresh_complete : (h : List Noted) (page : ℕ) → IsFresh heading trust h page → is_fresh heading trust h page ≡ true
  fresh_complete h page f =
      ap (λ (xs : List Noted). is_fresh heading trust xs page) f.split
      ∙ fresh_from f.newer f.older f.init page f.pe f.made f.in_none f.no_null

pub ruleset laws = (limbo_sound, limbo_complete, tree_sound, tree_complete, tree_below, node_taken, tree_has, childless_sound, childless_complete, paths_sound, paths_complete, fresh_sound, fresh_complete)
