-- Under `isolated` each table page is clean; and the rule on table pages refuses what would end that, and no more.
use Rattle.bbm_histories.proofs.Common.{Heading, Event, Dsb, Init, Root, Unroot, Write, Leads, Below, Attaches, InTree, Proper}
use Rattle.bbm_histories.proofs.Common.{NoInit, Through}
use Rattle.bbm_rules.proofs.Common.{◌↔◌, ◌≡◌, ℕ, suc, ◌+◌, ◌-◌, ◌<◌, ◌≤◌, ◌⊎◌, true, false, not, Bool, cond, List, [], ◌∷◌, ◌++◌}
use Rattle.bbm_rules.proofs.Common.{length, Option, Some, None, is_none, is_some, Contains, refl, sym, ◌∙◌, ap, subst}
use Rattle.bbm_rules.proofs.Common.{inl, inr, arith, true≢false, option_and_then, option_to_list}
use Rattle.bbm_rules.proofs.Common.{and_from, and_parts, or_cases, or_left, or_right, not_from_false, eq-eqb, eqb-true}
use Rattle.bbm_rules.proofs.Common.{◌&&◌, ◌||◌, ◌==◌, Kind, desc_as, desc_of, form_of, valid_form, Form, is_valid}
use Rattle.bbm_rules.proofs.Common.{Attached, End, all_ends, attached_by, attached_from, end_at, pages_of, keeps, Trust}
use Rattle.bbm_rules.proofs.Common.{note, noted, Noted, events_of, is_fresh, page_of, root_pages, start_of, Node, IsNode}
use Rattle.bbm_rules.proofs.Common.{held_at, in_tree, next_of, node_below, node_of, value_of, places_in}
use Rattle.bbm_rules.proofs.Common.{written_places, In, from_contains, to_contains, contains_head}
use Rattle.bbm_rules.proofs.Common.{contains_none, in_append, in_left, in_right, in_map, from_map, from_filter, to_filter}
use Rattle.bbm_rules.proofs.Common.{to_flat, any, any_finds, any_found, same_kind}
use Rattle.std.proofs.lemmas.Option.{option_and_then_some}
use Rattle.bbm_lemmas.proofs.Elements.{from_flat}
use Rattle.bbm_regimes.specs.declared.regime.Kind.TheVariants.{S2}
use Rattle.bbm_rules.specs.BrokenLaws.{KeepsTables}
use Rattle.bbm_rules.specs.Mapped.{initialises, is_clean, is_mapped, maps, maps_as, table_pages}
use Rattle.bbm_rules.specs.Roots.{Declared}
use Rattle.bbm_rules.specs.Rules.{end_over, made_tables, puts_over, table_mapped, writes_over}
use Rattle.bbm_rules.specs.Tree.{tree}
use Rattle.bbm_rules.specs.TreeSentences.{Mapped}
use Rattle.bbm_rules.specs.declared.rule.Rule.TheVariants.{NotFresh, PageInUse, TableMapped}
use Rattle.bbm_rules.proofs.HeldLemmas.{held_is_written}
use Rattle.bbm_rules.proofs.MappedLaw.{clean_parts, clean_unmapped, is_init}
use Rattle.bbm_histories.proofs.AttachedLemmas.{fresh, same_value, unwritten}
use Rattle.bbm_histories.proofs.FreshLemmas.{content, held_is_present}
use Rattle.bbm_histories.proofs.HeldSteps.{IsDsb, held_back}
use Rattle.bbm_histories.proofs.Induction.{Unbroken, last_kept}
use Rattle.bbm_histories.proofs.Invariants.{Invariants, invariants, none_at_start}
use Rattle.bbm_histories.proofs.NodeSteps.{node_attached}
use Rattle.bbm_histories.proofs.TreeAfter.{still_there}
use Rattle.bbm_histories.proofs.TreeSteps.{added, node_is, start_leads, through_kind, through_leads, through_level, write_attaches}

-- ---- leaves that map a page are valid

maps_valid : (kind : Kind) (level value page : ℕ) → maps kind level value page ≡ true → is_valid kind level value ≡ true
maps_valid kind level value page k =
    by (form_of level value) (and_parts (same_kind kind S2) (maps_as level (desc_of kind level value) page) k).1
  where
    by : (form : Form) → maps_as level (desc_as form kind level value) page ≡ true → valid_form form ≡ true
    by Form.invalid e = absurd (true≢false (sym e))
    by Form.table e = refl
    by Form.leaf e = refl

-- what an option has
listed : {X : Type 0} (o : Option X) (x : X) → In (option_to_list o) x → o ≡ Some x
listed None x i = absurd i
listed (Some y) x (inl same) = ap Some same
listed (Some y) x (inr i) = absurd i

lists : {X : Type 0} (o : Option X) (x : X) → o ≡ Some x → In (option_to_list o) x
lists None x e = cc
lists (Some y) x e = inl cc

module _ (heading : Heading) (trust : Trust) where
  abbrev pub AllClean : List Noted → Type 0
  AllClean h = (page : ℕ) → in_tree heading trust h page ≡ true → is_clean heading trust h page ≡ true

  -- a page that is clean was clean at each moment since its last init
  pub since : (newer older : List Event) (page : ℕ) → NoInit page newer
      → is_clean heading trust (noted heading trust (newer ++ older)) page ≡ true
      → is_clean heading trust (noted heading trust older) page ≡ true
  since [] older page none k = k
  since (e ∷ newer) older page none k =
      let before : List Noted = noted heading trust (newer ++ older) in
      elim (or_cases (initialises page e) (is_clean heading trust before page)
      (clean_parts heading trust (note heading trust before e) before page k).0) [
        | inl made ↦
            let i = is_init page e made in
            absurd (none i.0 [] newer (ap (λ (x : Event). x ∷ newer) i.1))
        | inr old ↦ since newer older page
            (λ q after before s. none q (e ∷ after) before (ap (λ (es : List Event). e ∷ es) s)) old
      ]

module _ (heading : Heading) (trust : Trust) (b : Below heading trust) (h : List Noted) (i : Invariants heading trust h) where
  -- ---- the nodes that an event attaches, and the ends of the paths of the pages that it attaches

  record Ended (e : Event) (m : Node) : Type 0 where
    attached : Attached
    is : attached_by heading trust h e ≡ Some attached
    ends : Contains (all_ends attached) (end_at m.level m.page)
    kind : attached.kind ≡ m.kind

  node_end : (e : Event) (m : Node) → Unbroken heading trust h e → m.level < 4 → Attaches heading trust h e m → Ended e m
  node_end (Write pe at value) m kept below l =
      let level : m.level ≡ suc l.parent.level + length l.places
      = through_level heading trust h l.places (node_below l.parent at l.next) m l.through in
      record {
        attached = attached_from heading trust h l.parent.kind (suc l.parent.level) (l.next ∷ []);
        is = write_attaches heading trust b h pe at value kept i.odd i.one l.parent l.next l.is_parent l.empty l.table;
        ends = b.paths.to_attached h l.parent.kind (suc l.parent.level) (l.next ∷ []) l.next l.places (end_at m.level m.page)
            (contains_head [] l.next) (omega arith)
            (through_leads heading trust h l.places (node_below l.parent at l.next) m l.through);
        kind = sym (through_kind heading trust h l.places (node_below l.parent at l.next) m l.through);
      }
  node_end (Root pe kind lock page) m kept below l =
      let begin = b.root_pages.fields (record { page = page; kind = kind; lock = lock }) l.start l.is_start in
      let first : l.start.level ≡ start_of heading.world kind = begin.1 in
      let level : m.level ≡ l.start.level + length l.places = through_level heading trust h l.places l.start m l.through in
      record {
        attached = attached_from heading trust h kind (start_of heading.world kind) (root_pages heading.world kind page);
        is = refl;
        ends = b.paths.to_attached h kind (start_of heading.world kind) (root_pages heading.world kind page) l.start.page l.places
            (end_at m.level m.page) begin.4 (omega arith)
            (start_leads heading trust b h pe kind lock page kept i.odd i.one l.start l.places (end_at m.level m.page) l.is_start
            (through_leads heading trust h l.places l.start m l.through));
        kind = sym (through_kind heading trust h l.places l.start m l.through ∙ begin.0);
      }
  node_end e m kept below l = absurd l

  -- the node to which a path leads that begins at a node
  record Reached (n : Node) (places : List ℕ) (kind : Kind) (end : End) : Type 0 where
    node : Node
    through : Through heading trust h n places node
    page : node.page ≡ end.page
    level : node.level ≡ end.level
    of_kind : node.kind ≡ kind

  reached : (places : List ℕ) (n : Node) (kind : Kind) (level page : ℕ) (end : End) → n.kind ≡ kind → n.level ≡ level
      → n.page ≡ page → is_fresh heading trust h end.page ≡ true → Leads heading trust h kind level page places end
      → Reached n places kind end
  reached [] n kind level page end k l p fresh leads = record {
    node = n;
    through = (subst (λ (x : ℕ). is_fresh heading trust h x ≡ true) (sym (ap (λ (x : End). x.page) leads) ∙ sym p) fresh, refl);
    page = p ∙ ap (λ (x : End). x.page) leads;
    level = l ∙ ap (λ (x : End). x.level) leads;
    of_kind = k;
  }
  reached (place ∷ places) n kind level page end k l p fresh leads =
      let r : Reached (node_below n place leads.2) places kind end
      = reached places (node_below n place leads.2) kind (suc level) leads.2 end k (ap suc l) refl fresh leads.4 in
      record {
        node = r.node;
        through = (
          subst (λ (x : ℕ). is_fresh heading trust h x ≡ true) (sym p) leads.0,
          leads.1 ∙ sym p,
          leads.2,
          rw (k, l) leads.3,
          r.through,
        );
        page = r.page;
        level = r.level;
        of_kind = r.of_kind;
      }

  -- the ends of the paths are fresh pages
  ends_fresh : (e : Event) (kind : Kind) (level : ℕ) (pages : List ℕ) → Unbroken heading trust h e
      → attached_by heading trust h e ≡ Some (attached_from heading trust h kind level pages)
      → ((page : ℕ) → Contains pages page → is_fresh heading trust h page ≡ true) → (page : ℕ) (places : List ℕ) (end : End)
      → Contains pages page → length places ≤ 3 - level → Leads heading trust h kind level page places end
      → is_fresh heading trust h end.page ≡ true
  ends_fresh e kind level pages kept is named page [] end c short l =
      subst (λ (x : End). is_fresh heading trust h x.page ≡ true) l (named page c)
  ends_fresh e kind level pages kept is named page (place ∷ places) end c short l =
      b.attaching.deeper h e kind level pages is (kept NotFresh refl) page place places end c (omega arith) l

  -- what a write that attaches does
  record Links (at value : ℕ) (a : Attached) : Type 0 where
    parent : Node
    is_parent : node_of heading trust h (page_of at) ≡ Some parent
    empty : held_at heading trust h parent at ≡ None
    next : ℕ
    table : next_of parent.kind parent.level value ≡ Some next
    is : attached_from heading trust h parent.kind (suc parent.level) (next ∷ []) ≡ a

  links : (pe at value : ℕ) (a : Attached) → attached_by heading trust h (Write pe at value) ≡ Some a → Links at value a
  links pe at value a e =
      option_and_then_some (λ (n : Node). from n (held_at heading trust h n at)) (node_of heading trust h (page_of at)) a e
      (λ n node k. by n node (held_at heading trust h n at) refl k)
    where
      below : Node → ℕ → Option Attached
      below n next = Some (attached_from heading trust h n.kind (suc n.level) (next ∷ []))

      from : Node → Option ℕ → Option Attached
      from n o = option_and_then (below n) (cond (is_none o) (next_of n.kind n.level value) None)

      by : (n : Node) → node_of heading trust h (page_of at) ≡ Some n → (o : Option ℕ) → held_at heading trust h n at ≡ o
          → from n o ≡ Some a → Links at value a
      by n node (Some v) empty k = cc
      by n node None empty k =
          option_and_then_some (below n) (next_of n.kind n.level value) a k (λ next table made. record {
            parent = n;
            is_parent = node;
            empty = empty;
            next = next;
            table = table;
            is = cc;
          })

  -- a node that the event attaches at the end
  record Placed (e : Event) (kind : Kind) (end : End) : Type 0 where
    node : Node
    attaches : Attaches heading trust h e node
    page : node.page ≡ end.page
    level : node.level ≡ end.level
    of_kind : node.kind ≡ kind

  end_node : (e : Event) (a : Attached) (end : End) → Unbroken heading trust h e → attached_by heading trust h e ≡ Some a
      → Contains (all_ends a) end → Placed e a.kind end
  end_node (Write pe at value) a end kept is c =
      let k : Links at value a = links pe at value a is in
      let pages : List ℕ = k.next ∷ [] in
      let attached : attached_by heading trust h (Write pe at value)
      ≡ Some (attached_from heading trust h k.parent.kind (suc k.parent.level) pages) = is ∙ ap Some (sym k.is) in
      let p = b.paths.from_attached h k.parent.kind (suc k.parent.level) pages end
      (subst (λ (x : Attached). Contains (all_ends x) end) (sym k.is) c) in
      let first : k.next ≡ p.0 = only k.next p.0 (from_contains pages p.0 p.1) in
      let r : Reached (node_below k.parent at k.next) p.2 k.parent.kind end
      = reached p.2 (node_below k.parent at k.next) k.parent.kind (suc k.parent.level) p.0 end refl refl first
      (ends_fresh (Write pe at value) k.parent.kind (suc k.parent.level) pages kept attached
      (λ page i. b.attaching.written h pe at value k.parent.kind (suc k.parent.level) pages attached (kept NotFresh refl) page i)
      p.0 p.2 end p.1 p.3 p.4) p.4 in
      record {
        node = r.node;
        attaches = record {
          parent = k.parent;
          is_parent = k.is_parent;
          empty = k.empty;
          next = k.next;
          table = k.table;
          places = p.2;
          through = r.through;
        };
        page = r.page;
        level = r.level;
        of_kind = r.of_kind ∙ ap (λ (x : Attached). x.kind) k.is;
      }
    where
      only : (next page : ℕ) → In (next ∷ []) page → next ≡ page
      only next page (inl same) = same
      only next page (inr none) = absurd none
  end_node (Root pe kind lock page) a end kept is c =
      let root : Declared = record { page = page; kind = kind; lock = lock } in
      let pages : List ℕ = root_pages heading.world kind page in
      let level : ℕ = start_of heading.world kind in
      let same : attached_from heading trust h kind level pages ≡ a = cc in
      let p = b.paths.from_attached h kind level pages end (subst (λ (x : Attached). Contains (all_ends x) end) (sym same) c) in
      let start = b.root_pages.each root p.0 p.1 in
      let begin = b.root_pages.fields root start.0 start.1 in
      let r : Reached start.0 p.2 kind end
      = reached p.2 start.0 kind level p.0 end begin.0 begin.1 start.2
      (ends_fresh (Root pe kind lock page) kind level pages kept refl
      (λ first i. b.attaching.rooted h pe kind lock page first (kept PageInUse refl) i) p.0 p.2 end p.1 p.3 p.4) p.4 in
      record {
        node = r.node;
        attaches = record { start = start.0; is_start = start.1; places = p.2; through = r.through };
        page = r.page;
        level = r.level;
        of_kind = r.of_kind ∙ ap (λ (x : Attached). x.kind) same;
      }
  end_node e a end kept is c = cc

  -- a leaf of an attached page, which maps the page
  record Lies (e : Event) (page : ℕ) : Type 0 where
    attached : Attached
    is : attached_by heading trust h e ≡ Some attached
    end : End
    ends : Contains (all_ends attached) end
    place : ℕ
    inside : page_of place ≡ end.page
    maps_page : maps attached.kind end.level (value_of (events_of h) place) page ≡ true

  lies : (e : Event) (page : ℕ) → any (λ (x : Attached). any (end_over heading trust h x.kind page) (all_ends x))
      (option_to_list (attached_by heading trust h e)) ≡ true → Lies e page
  lies e page k =
      let x = any_found (λ (y : Attached). any (end_over heading trust h y.kind page) (all_ends y))
      (option_to_list (attached_by heading trust h e)) k in
      let end = any_found (end_over heading trust h x.0.kind page) (all_ends x.0) x.2 in
      let place = any_found (λ (y : ℕ). maps x.0.kind end.0.level (value_of (events_of h) y) page)
      (places_in (events_of h) end.0.page) end.2 in
      let inside = from_filter (λ (y : ℕ). page_of y == end.0.page) (written_places (events_of h)) place.0 place.1 in
      record {
        attached = x.0;
        is = listed (attached_by heading trust h e) x.0 x.1;
        end = end.0;
        ends = to_contains (all_ends x.0) end.0 end.1;
        place = place.0;
        inside = eqb-true (page_of place.0) end.0.page inside.1;
        maps_page = place.2;
      }

  -- it is one of the node at the end
  at_node : (e : Event) (kind : Kind) (end : End) (p : Placed e kind end) (value page : ℕ) → maps kind end.level value page ≡ true
      → maps p.node.kind p.node.level value page ≡ true
  at_node e kind end p value page k =
      subst (λ (x : Kind). maps x p.node.level value page ≡ true) (sym p.of_kind)
      (subst (λ (l : ℕ). maps kind l value page ≡ true) (sym p.level) k)

  -- ---- one event

  module _ (e : Event) (kept : Unbroken heading trust h e) where
    abbrev now : List Noted
    now = note heading trust h e ∷ h

    -- the table pages before it, and those that it makes so
    abbrev tabled : List ℕ
    tabled = table_pages heading trust h ++ made_tables heading trust h e

    is_node : (m : Node) → InTree heading trust now m → IsNode heading trust now m
    is_node m there = b.tree.sound now m there

    -- a page that it makes so, and the node there
    made_there : (page : ℕ) → In (made_tables heading trust h e) page
        → (m : Node) × Attaches heading trust h e m × (m.page ≡ page)
    made_there page made =
        let a = from_flat (λ (x : Attached). pages_of (all_ends x)) (option_to_list (attached_by heading trust h e)) page made in
        let end = from_map (λ (x : End). x.page) (all_ends a.0) page a.2 in
        let p : Placed e a.0.kind end.0
        = end_node e a.0 end.0 kept (listed (attached_by heading trust h e) a.0 a.1) (to_contains (all_ends a.0) end.0 end.1) in
        (p.node, p.attaches, p.page ∙ end.2)

    made_in : (m : Node) → m.level < 4 → Attaches heading trust h e m → In (made_tables heading trust h e) m.page
    made_in m below a =
        let r : Ended e m = node_end e m kept below a in
        to_flat (λ (x : Attached). pages_of (all_ends x)) (option_to_list (attached_by heading trust h e)) r.attached m.page
        (lists (attached_by heading trust h e) r.attached r.is)
        (in_map (λ (x : End). x.page) (all_ends r.attached) (end_at m.level m.page)
        (from_contains (all_ends r.attached) (end_at m.level m.page) r.ends))

    -- ---- a leaf that is held after it was held before, or it puts the leaf there

    over_attached : (m : Node) (place page : ℕ) → m.level < 4 → Attaches heading trust h e m → page_of place ≡ m.page
        → In (written_places (events_of h)) place → maps m.kind m.level (value_of (events_of h) place) page ≡ true
        → puts_over heading trust h e page ≡ true
    over_attached m place page below a inside written maps_it =
        let r : Ended e m = node_end e m kept below a in
        or_right (writes_over heading trust h e page)
        (any (λ (x : Attached). any (end_over heading trust h x.kind page) (all_ends x)) (option_to_list (attached_by heading trust h e)))
        (any_finds (λ (x : Attached). any (end_over heading trust h x.kind page) (all_ends x)) (option_to_list (attached_by heading trust h e))
        r.attached (lists (attached_by heading trust h e) r.attached r.is)
        (any_finds (end_over heading trust h r.attached.kind page) (all_ends r.attached) (end_at m.level m.page)
        (from_contains (all_ends r.attached) (end_at m.level m.page) r.ends)
        (any_finds (λ (x : ℕ). maps r.attached.kind m.level (value_of (events_of h) x) page) (places_in (events_of h) m.page) place
        (to_filter (λ (x : ℕ). page_of x == m.page) (written_places (events_of h)) place written (eq-eqb (page_of place) m.page inside))
        (subst (λ (k : Kind). maps k m.level (value_of (events_of h) place) page ≡ true) (sym r.kind) maps_it))))

    over_written : (m : Node) (q place value page : ℕ) → e ≡ Write q place value → InTree heading trust h m
        → page_of place ≡ m.page → maps m.kind m.level value page ≡ true → puts_over heading trust h e page ≡ true
    over_written m q place value page is old inside maps_it =
        subst (λ (x : Event). puts_over heading trust h x page ≡ true) (sym is)
        (or_left (writes_over heading trust h (Write q place value) page)
        (any (λ (x : Attached). any (end_over heading trust h x.kind page) (all_ends x)) (option_to_list (attached_by heading trust h (Write q place value))))
        (any_finds (λ (x : Node). maps x.kind x.level value page) (option_to_list (node_of heading trust h (page_of place))) m
        (lists (node_of heading trust h (page_of place)) m (node_is heading trust b h i.one m (page_of place) old (sym inside))) maps_it))

    mapped_by : (page : ℕ) → Mapped heading trust now page
        → (is_mapped heading trust h page ≡ true) ⊎ (puts_over heading trust h e page ≡ true)
    mapped_by page m =
        elim (added heading trust b h i.odd i.one e m.node kept (b.tree.complete now m.node m.is_node)) [
          | inl old ↦ elim (held_back heading trust b m.node.kind m.node.level m.place (note heading trust h e) h m.value m.holds) [
            | inl held ↦ inl (b.mapped.complete h page (record {
              node = m.node;
              is_node = b.tree.sound h m.node old;
              place = m.place;
              inside = m.inside;
              value = m.value;
              holds = held;
              maps_page = m.maps_page;
            }))
            | inr w ↦ inr (over_written m.node w.0 m.place m.value page w.1 old m.inside m.maps_page)
          ]
          | inr a ↦ elim (held_back heading trust b m.node.kind m.node.level m.place (note heading trust h e) h m.value m.holds) [
            | inl held ↦
                let present : value_of (events_of h) m.place ≡ m.value
                = held_is_present heading trust b m.node.kind m.node.level m.place h m.value (content heading trust b h i.odd)
                (fresh heading trust b h i e m.node m.place a m.inside) held in
                inr (over_attached m.node m.place page m.is_node.level a m.inside
                (held_is_written heading trust m.place m.node.kind m.node.level h m.value held)
                (subst (λ (x : ℕ). maps m.node.kind m.node.level x page ≡ true) (sym present) m.maps_page))
            | inr w ↦ absurd (unwritten heading trust b h i e m.node m.place a m.inside w.0 m.value w.1)
          ]
        ]

    -- ---- a table page after it was one before, or it makes it so

    tabled_by : (page : ℕ) → in_tree heading trust now page ≡ true → In tabled page
    tabled_by page k = by (node_of heading trust now page) refl k
      where
        by : (o : Option Node) → node_of heading trust now page ≡ o → is_some o ≡ true → In tabled page
        by None node some = absurd (true≢false (sym some))
        by (Some m) node some =
            let u = b.tree.taken now page m node in
            subst (λ (x : ℕ). In tabled x) u.1
            (elim (added heading trust b h i.odd i.one e m kept u.0) [
              | inl old ↦ in_left (table_pages heading trust h) (made_tables heading trust h e) m.page
                  (in_map (λ (n : Node). n.page) (tree heading trust h) m (from_contains (tree heading trust h) m old))
              | inr a ↦
                  in_right (table_pages heading trust h) (made_tables heading trust h e) m.page (made_in m (is_node m u.0).level a)
            ])

    was_table : (page : ℕ) → In (table_pages heading trust h) page → in_tree heading trust h page ≡ true
    was_table page t =
        let m = from_map (λ (n : Node). n.page) (tree heading trust h) page t in
        ap (λ (o : Option Node). is_some o)
        (node_is heading trust b h i.one m.0 page (to_contains (tree heading trust h) m.0 m.1) m.2)

    -- ---- the rule keeps them clean

    pub clean_step : KeepsTables heading trust h e → AllClean heading trust h → AllClean heading trust now
    clean_step k before page there =
        let t : In tabled page = tabled_by page there in
        let clean : is_clean heading trust h page ≡ true
        = elim (in_append (table_pages heading trust h) (made_tables heading trust h e) page t) [
          | inl old ↦ before page (was_table page old)
          | inr made ↦ k.clean page (to_contains (made_tables heading trust h e) page made)
        ] in
        and_from (initialises page e || is_clean heading trust h page) (not (is_mapped heading trust now page))
        (or_right (initialises page e) (is_clean heading trust h page) clean)
        (not_from_false (is_mapped heading trust now page) (by t clean (is_mapped heading trust now page) refl))
      where
        by : In tabled page → is_clean heading trust h page ≡ true → (c : Bool) → is_mapped heading trust now page ≡ c → c ≡ false
        by t clean false m = refl
        by t clean true m =
            elim (mapped_by page (b.mapped.sound now page m)) [
              | inl old ↦ absurd (true≢false (sym old ∙ clean_unmapped heading trust h page clean))
              | inr put ↦ absurd (true≢false (sym put ∙ k.unmapped page (to_contains tabled page t)))
            ]

    -- ---- where they stay clean it keeps the rule

    module _ (proper : Proper heading) (no_dsb : IsDsb e → ⊥) (no_unroot : (q page : ℕ) → e ≡ Unroot q page → ⊥)
        (no_init : (q page : ℕ) → e ≡ Init q page → ⊥) where
      there_attached : (m : Node) → Attaches heading trust h e m → InTree heading trust now m
      there_attached m a =
          (b.tree.taken now m.page m (node_attached heading trust b h i proper e kept m a)).0

      there_old : (m : Node) → InTree heading trust h m → InTree heading trust now m
      there_old m t = still_there heading trust b h i proper e kept no_dsb no_unroot m t

      in_page : (m : Node) (page : ℕ) → InTree heading trust now m → m.page ≡ page → in_tree heading trust now page ≡ true
      in_page m page t same = subst (λ (x : ℕ). in_tree heading trust now x ≡ true) same (b.tree.has now m t)

      table_now : (page : ℕ) → In tabled page → in_tree heading trust now page ≡ true
      table_now page t =
          elim (in_append (table_pages heading trust h) (made_tables heading trust h e) page t) [
            | inl old ↦
                let m = from_map (λ (n : Node). n.page) (tree heading trust h) page old in
                in_page m.0 page (there_old m.0 (to_contains (tree heading trust h) m.0 m.1)) m.2
            | inr made ↦ let m = made_there page made in in_page m.0 page (there_attached m.0 m.1) m.2
          ]

      by_write : (q place value : ℕ) (n : Node) (page : ℕ) → e ≡ Write q place value
          → node_of heading trust h (page_of place) ≡ Some n → maps n.kind n.level value page ≡ true → Mapped heading trust now page
      by_write q place value n page is node maps_it =
          let taken = b.tree.taken h (page_of place) n node in
          let there : InTree heading trust now n = there_old n taken.0 in
          let present : value_of (e ∷ events_of h) place ≡ value
          = ap (λ (x : Event). value_of (x ∷ events_of h) place) is
          ∙ ap (λ (c : Bool). cond c value (value_of (events_of h) place)) (eq-eqb place place refl) in
          record {
            node = n;
            is_node = is_node n there;
            place = place;
            inside = sym taken.1;
            value = value;
            holds = b.held.live n.kind n.level place now proper.some_pe
                (subst (λ (x : ℕ). is_valid n.kind n.level x ≡ true) (sym present) (maps_valid n.kind n.level value page maps_it))
                ∙ ap Some present;
            maps_page = maps_it;
          }

      by_attached : (page : ℕ) → Lies e page → Mapped heading trust now page
      by_attached page l =
          let p : Placed e l.attached.kind l.end = end_node e l.attached l.end kept l.is l.ends in
          let m : Node = p.node in
          let within : page_of l.place ≡ m.page = l.inside ∙ sym p.page in
          let present : value_of (e ∷ events_of h) l.place ≡ value_of (events_of h) l.place
          = same_value heading trust b h i e m l.place p.attaches within in
          let maps_here : maps m.kind m.level (value_of (events_of h) l.place) page ≡ true
          = at_node e l.attached.kind l.end p (value_of (events_of h) l.place) page l.maps_page in
          let valid : is_valid m.kind m.level (value_of (e ∷ events_of h) l.place) ≡ true
          = subst (λ (x : ℕ). is_valid m.kind m.level x ≡ true) (sym present)
          (maps_valid m.kind m.level (value_of (events_of h) l.place) page maps_here) in
          record {
            node = m;
            is_node = is_node m (there_attached m p.attaches);
            place = l.place;
            inside = within;
            value = value_of (events_of h) l.place;
            holds = b.held.live m.kind m.level l.place now proper.some_pe valid ∙ ap Some present;
            maps_page = maps_here;
          }

      put_is_mapped : (page : ℕ) → puts_over heading trust h e page ≡ true → is_mapped heading trust now page ≡ true
      put_is_mapped page k =
          b.mapped.complete now page
          (elim (or_cases (writes_over heading trust h e page)
          (any (λ (x : Attached). any (end_over heading trust h x.kind page) (all_ends x)) (option_to_list (attached_by heading trust h e))) k) [
            | inl w ↦ written e refl w
            | inr a ↦ by_attached page (lies e page a)
          ])
        where
          written : (x : Event) → e ≡ x → writes_over heading trust h x page ≡ true → Mapped heading trust now page
          written (Write q place value) is w =
              let n = any_found (λ (m : Node). maps m.kind m.level value page) (option_to_list (node_of heading trust h (page_of place))) w in
              by_write q place value n.0 page is (listed (node_of heading trust h (page_of place)) n.0 n.1) n.2
          written x is w = absurd (true≢false (sym w))

      from_clean : AllClean heading trust now → KeepsTables heading trust h e
      from_clean all = record {
        unmapped = λ page c. unmapped page (from_contains tabled page c) (puts_over heading trust h e page) refl;
        clean = λ page c. clean page (from_contains (made_tables heading trust h e) page c);
      }
        where
          parts : (page : ℕ) → In tabled page
              → ((initialises page e || is_clean heading trust h page) ≡ true) × (is_mapped heading trust now page ≡ false)
          parts page t = clean_parts heading trust (note heading trust h e) h page (all page (table_now page t))

          unmapped : (page : ℕ) → In tabled page → (c : Bool) → puts_over heading trust h e page ≡ c → c ≡ false
          unmapped page t false k = refl
          unmapped page t true k = absurd (true≢false (sym (put_is_mapped page k) ∙ (parts page t).1))

          clean : (page : ℕ) → In (made_tables heading trust h e) page → is_clean heading trust h page ≡ true
          clean page made =
              elim (or_cases (initialises page e) (is_clean heading trust h page)
              (parts page (in_right (table_pages heading trust h) (made_tables heading trust h e) page made)).0) [
                | inl init ↦ let k = is_init page e init in absurd (no_init k.0 page k.1)
                | inr old ↦ old
              ]

  pub kept_where_clean : Proper heading → (e : Event) → Unbroken heading trust h e
      → AllClean heading trust (note heading trust h e ∷ h) → KeepsTables heading trust h e
  kept_where_clean proper (Write pe at value) kept all =
      from_clean (Write pe at value) kept proper (λ d. let apart : Write pe at value ≡ Dsb d.0 d.1 = d.2 in cc)
      (λ q page is. cc) (λ q page is. cc) all
  kept_where_clean proper (Root pe kind lock page) kept all =
      from_clean (Root pe kind lock page) kept proper (λ d. let apart : Root pe kind lock page ≡ Dsb d.0 d.1 = d.2 in cc)
      (λ q first is. cc) (λ q first is. cc) all
  kept_where_clean proper e kept all = record {
    unmapped = λ page c. refl;
    clean = λ page c. absurd (contains_none page c);
  }

  -- ---- which pages are mapped and clean after an event

  put_maps : Proper heading → (e : Event) → Unbroken heading trust h e → (page : ℕ) → puts_over heading trust h e page ≡ true
      → is_mapped heading trust (note heading trust h e ∷ h) page ≡ true
  put_maps proper (Write pe at value) kept page put =
      put_is_mapped (Write pe at value) kept proper (λ d. let apart : Write pe at value ≡ Dsb d.0 d.1 = d.2 in cc)
      (λ q first is. cc) (λ q first is. cc) page put
  put_maps proper (Root pe kind lock first) kept page put =
      put_is_mapped (Root pe kind lock first) kept proper (λ d. let apart : Root pe kind lock first ≡ Dsb d.0 d.1 = d.2 in cc)
      (λ q other is. cc) (λ q other is. cc) page put
  put_maps proper e kept page put = absurd (true≢false (sym put))

  pub unmapped_after : (e : Event) → Unbroken heading trust h e → (page : ℕ) → is_mapped heading trust h page ≡ false
      → puts_over heading trust h e page ≡ false → is_mapped heading trust (note heading trust h e ∷ h) page ≡ false
  unmapped_after e kept page unmapped unput = by (is_mapped heading trust (note heading trust h e ∷ h) page) refl
    where
      by : (c : Bool) → is_mapped heading trust (note heading trust h e ∷ h) page ≡ c → c ≡ false
      by false m = refl
      by true m =
          elim (mapped_by e kept page (b.mapped.sound (note heading trust h e ∷ h) page m)) [
            | inl old ↦ absurd (true≢false (sym old ∙ unmapped))
            | inr put ↦ absurd (true≢false (sym put ∙ unput))
          ]

  pub clean_after : Proper heading → (e : Event) → Unbroken heading trust h e → (page : ℕ) → initialises page e ≡ false
      → is_clean heading trust (note heading trust h e ∷ h) page
      ≡ (is_clean heading trust h page && not (puts_over heading trust h e page))
  clean_after proper e kept page no_init =
      ap (λ (c : Bool). (c || is_clean heading trust h page) && not (is_mapped heading trust (note heading trust h e ∷ h) page))
      no_init ∙ by (is_clean heading trust h page) refl
    where
      same : is_clean heading trust h page ≡ true → (p : Bool) → puts_over heading trust h e page ≡ p
          → is_mapped heading trust (note heading trust h e ∷ h) page ≡ p
      same clean true put = put_maps proper e kept page put
      same clean false unput = unmapped_after e kept page (clean_unmapped heading trust h page clean) unput

      by : (c : Bool) → is_clean heading trust h page ≡ c → (c && not (is_mapped heading trust (note heading trust h e ∷ h) page))
          ≡ (c && not (puts_over heading trust h e page))
      by false clean = refl
      by true clean = ap not (same clean (puts_over heading trust h e page) refl)

  -- ---- what an event attaches, by nodes

  attached_level : Proper heading → (e : Event) → Unbroken heading trust h e → (m : Node) → Attaches heading trust h e m
      → m.level < 4
  attached_level proper e kept m a =
      (is_node e kept m (b.tree.taken (note heading trust h e ∷ h) m.page m (node_attached heading trust b h i proper e kept m a)).0).level

  pub made_nodes : Proper heading → (e : Event) → Unbroken heading trust h e → (page : ℕ)
      → Contains (made_tables heading trust h e) page ↔ ((m : Node) × Attaches heading trust h e m × (m.page ≡ page))
  made_nodes proper e kept page = (
    λ c. made_there e kept page (from_contains (made_tables heading trust h e) page c),
    λ m. to_contains (made_tables heading trust h e) page (subst (λ (x : ℕ). In (made_tables heading trust h e) x) m.2
        (made_in e kept m.0 (attached_level proper e kept m.0 m.1) m.1)),
  )

  -- a place of an attached node has a leaf that maps the page
  abbrev pub HasLeaf : Event → ℕ → Type 0
  HasLeaf e page = (m : Node) × Attaches heading trust h e m × (place : ℕ) × (page_of place ≡ m.page)
      × (maps m.kind m.level (value_of (events_of h) place) page ≡ true)

  pub puts_nodes : Proper heading → (e : Event) → Unbroken heading trust h e → (page : ℕ)
      → (puts_over heading trust h e page ≡ true) ↔ ((writes_over heading trust h e page ≡ true) ⊎ HasLeaf e page)
  puts_nodes proper e kept page = (there, back)
    where
      ends_over : Bool
      ends_over = any (λ (x : Attached). any (end_over heading trust h x.kind page) (all_ends x))
          (option_to_list (attached_by heading trust h e))

      has : Lies e page → HasLeaf e page
      has l =
          let p : Placed e l.attached.kind l.end = end_node e l.attached l.end kept l.is l.ends in (
            p.node,
            p.attaches,
            l.place,
            l.inside ∙ sym p.page,
            at_node e l.attached.kind l.end p (value_of (events_of h) l.place) page l.maps_page,
          )

      there : puts_over heading trust h e page ≡ true → (writes_over heading trust h e page ≡ true) ⊎ HasLeaf e page
      there k =
          elim (or_cases (writes_over heading trust h e page) ends_over k) [
            | inl w ↦ inl w
            | inr a ↦ inr (has (lies e page a))
          ]

      back : (writes_over heading trust h e page ≡ true) ⊎ HasLeaf e page → puts_over heading trust h e page ≡ true
      back (inl w) = or_left (writes_over heading trust h e page) ends_over w
      back (inr l) =
          let m : Node = l.0 in
          let valid : is_valid m.kind m.level (value_of (events_of h) l.2) ≡ true
          = maps_valid m.kind m.level (value_of (events_of h) l.2) page l.4 in
          over_attached e kept m l.2 page (attached_level proper e kept m l.1) l.1 l.3
          (held_is_written heading trust l.2 m.kind m.level h (value_of (events_of h) l.2)
          (b.held.live m.kind m.level l.2 h proper.some_pe valid)) l.4

module _ (heading : Heading) (trust : Trust) (b : Below heading trust) (on : heading.words.isolated ≡ true) where
  pub tables_clean : (h : List Event) → keeps heading trust h ≡ true → AllClean heading trust (noted heading trust h)
  tables_clean [] kept page there = absurd (none page (node_of heading trust [] page) refl there)
    where
      none : (page : ℕ) (o : Option Node) → node_of heading trust [] page ≡ o → is_some o ≡ true → ⊥
      none page None node some = true≢false (sym some)
      none page (Some m) node some = none_at_start heading trust b m (b.tree.taken [] page m node).0
  tables_clean (e ∷ h) kept page there =
      let parts = last_kept heading trust b h e kept in
      clean_step heading trust b (noted heading trust h) (invariants heading trust b h parts.0) e parts.1
      (b.table_mapped.sound (noted heading trust h) e on (b.each_rule.sound (e ∷ h) [] h e kept refl TableMapped))
      (tables_clean h parts.0) page there

  -- what the rule refuses of an event that breaks no other
  pub judged : Proper heading → (h : List Event) (e : Event) → keeps heading trust h ≡ true
      → Unbroken heading trust (noted heading trust h) e
      → (table_mapped heading trust (noted heading trust h) e ≡ None → AllClean heading trust (noted heading trust (e ∷ h)))
      × (AllClean heading trust (noted heading trust (e ∷ h)) → table_mapped heading trust (noted heading trust h) e ≡ None)
  judged proper h e kept others = (
    λ none. clean_step heading trust b (noted heading trust h) (invariants heading trust b h kept) e others
        (b.table_mapped.sound (noted heading trust h) e on none) (tables_clean h kept),
    λ all. b.table_mapped.complete (noted heading trust h) e
        (kept_where_clean heading trust b (noted heading trust h) (invariants heading trust b h kept) proper e others all),
  )
