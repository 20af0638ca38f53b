-- What one more event adds to the trees.
use Rattle.bbm_histories.proofs.Common.{Heading, Event, Root, Unroot, Write, PageInUse, Leads, Below, Attaches, InTree}
use Rattle.bbm_histories.proofs.Common.{Linked, Planted, Through, OddStays}
use Rattle.bbm_rules.proofs.Common.{◌≡◌, ℕ, suc, ◌+◌, ◌<◌, ◌⊎◌, true, List, [], ◌∷◌, length, Option, Some, None}
use Rattle.bbm_rules.proofs.Common.{is_some, Contains, refl, sym, ◌∙◌, ap, subst, inl, inr, arith, true≢false}
use Rattle.bbm_rules.proofs.Common.{suc-le-suc, zero-le, Kind, End, attached_by, attached_from, end_at, Trust, note}
use Rattle.bbm_rules.proofs.Common.{Noted, events_of, is_fresh, page_of, Declared, root_pages, roots_of, start_of}
use Rattle.bbm_rules.proofs.Common.{IsDeclared, Node, held_at, in_tree, next_of, node_below, node_of, nodes_of_root}
use Rattle.bbm_rules.proofs.Common.{Down, IsNode, value_of}
use Rattle.bbm_rules.specs.declared.rule.Rule.TheVariants.{NotFresh}
use Rattle.bbm_histories.proofs.CoreLemmas.{table_back}
use Rattle.bbm_histories.proofs.FreshLemmas.{content, fresh_is_outside, held_is_present}
use Rattle.bbm_histories.proofs.HeldSteps.{held_back, held_valid, same_core}
use Rattle.bbm_histories.proofs.Induction.{Unbroken}
use Rattle.bbm_histories.proofs.RootLemmas.{declared_back, not_retired}

-- a place that holds a table, and the page below it
pub record Link (heading : Heading) (trust : Trust) (h : List Noted) (n : Node) (place next : ℕ) : Type 0 where
  pub inside : page_of place ≡ n.page
  pub value : ℕ
  pub holds : held_at heading trust h n place ≡ Some value
  pub table : next_of n.kind n.level value ≡ Some next

-- each page of the trees has one node
abbrev pub OneNode : Heading → Trust → List Noted → Type 0
OneNode heading trust h = (n m : Node) → InTree heading trust h n → InTree heading trust h m → n.page ≡ m.page → n ≡ m

-- ---- paths

pub down_level : (heading : Heading) (trust : Trust) (h : List Noted) (places : List ℕ) (n m : Node)
    → Down heading trust h n places m → m.level ≡ n.level + length places
down_level heading trust h [] n m d = let same : m.level ≡ n.level = ap (λ (x : Node). x.level) (sym d) in omega arith
down_level heading trust h (place ∷ places) n m d =
    let rest : m.level ≡ suc n.level + length places = down_level heading trust h places (node_below n place d.3) m d.5 in
    omega arith

pub start_below : (heading : Heading) (trust : Trust) (h : List Noted) (m : Node) (k : IsNode heading trust h m) → k.start.level < 4
start_below heading trust h m k =
    let level : m.level ≡ k.start.level + length k.places = down_level heading trust h k.places k.start m k.down in
    let below : m.level < 4 = k.level in omega arith

module _ (heading : Heading) (trust : Trust) (h : List Noted) where
  pub through_level : (places : List ℕ) (n m : Node) → Through heading trust h n places m → m.level ≡ n.level + length places
  through_level [] n m t = let same : m.level ≡ n.level = ap (λ (x : Node). x.level) (sym t.1) in omega arith
  through_level (place ∷ places) n m t =
      let rest : m.level ≡ suc n.level + length places = through_level places (node_below n place t.2) m t.4 in omega arith

  pub through_kind : (places : List ℕ) (n m : Node) → Through heading trust h n places m → m.kind ≡ n.kind
  through_kind [] n m t = ap (λ (x : Node). x.kind) (sym t.1)
  through_kind (place ∷ places) n m t = through_kind places (node_below n place t.2) m t.4

  pub through_fresh : (places : List ℕ) (n m : Node) → Through heading trust h n places m → is_fresh heading trust h m.page ≡ true
  through_fresh [] n m t = subst (λ (x : Node). is_fresh heading trust h x.page ≡ true) t.1 t.0
  through_fresh (place ∷ places) n m t = through_fresh places (node_below n place t.2) m t.4

  pub through_leads : (places : List ℕ) (n m : Node) → Through heading trust h n places m
      → Leads heading trust h n.kind n.level n.page places (end_at m.level m.page)
  through_leads [] n m t = ap (λ (x : Node). end_at x.level x.page) t.1
  through_leads (place ∷ places) n m t =
      (t.0, t.1, t.2, t.3, through_leads places (node_below n place t.2) m t.4)

  -- the node at the end of a path is given by the path
  pub through_same : (places : List ℕ) (n m o : Node) → Through heading trust h n places m → Through heading trust h n places o
      → m ≡ o
  through_same [] n m o t u = sym t.1 ∙ u.1
  through_same (place ∷ places) n m o t u =
      let both : Some u.2 ≡ Some t.2 = sym u.3 ∙ t.3 in
      let next : u.2 ≡ t.2 = cc in
      through_same places (node_below n place t.2) m o t.4
      (subst (λ (x : ℕ). Through heading trust h (node_below n place x) places o) next u.4)

  -- paths of so many places from the node end in fresh pages
  abbrev pub FreshPaths : Node → Type 0
  FreshPaths n = (places : List ℕ) (end : End) → n.level + length places < 4
      → Leads heading trust h n.kind n.level n.page places end → is_fresh heading trust h end.page ≡ true

module _ (heading : Heading) (trust : Trust) (b : Below heading trust) (h : List Noted) where
  -- ---- the node of a page

  pub node_is : OneNode heading trust h → (n : Node) (page : ℕ) → InTree heading trust h n → n.page ≡ page
      → node_of heading trust h page ≡ Some n
  node_is one n page t same = by (node_of heading trust h page) refl
    where
      by : (o : Option Node) → node_of heading trust h page ≡ o → node_of heading trust h page ≡ Some n
      by None e =
          absurd (true≢false (sym (b.tree.has h n t) ∙ (ap (in_tree heading trust h) same ∙ ap is_some e)))
      by (Some q) e =
          let r = b.tree.taken h page q e in
          e ∙ ap Some (one q n r.0 t (r.1 ∙ sym same))

  pub is_tracked : (n : Node) (page : ℕ) → InTree heading trust h n → n.page ≡ page → in_tree heading trust h page ≡ true
  is_tracked n page t same = sym (ap (in_tree heading trust h) same) ∙ b.tree.has h n t

  pub not_fresh_there : (n : Node) (page : ℕ) → InTree heading trust h n → n.page ≡ page
      → is_fresh heading trust h page ≡ true → ⊥
  not_fresh_there n page t same fresh =
      true≢false (sym (is_tracked n page t same) ∙ fresh_is_outside heading trust h page fresh)

  -- a page of a root is one of the trees
  pub start_in_tree : (r : Declared) (start : Node) → Contains (roots_of (events_of h)) r → Contains (nodes_of_root heading r) start
      → start.level < 4 → InTree heading trust h start
  start_in_tree r start declared is_start below =
      b.tree.complete h start (record {
        root = r;
        declared = declared;
        start = start;
        is_start = is_start;
        places = [];
        down = refl;
        level = below;
      })

  pub link_in_tree : (n : Node) (place next : ℕ) → InTree heading trust h n → Link heading trust h n place next
      → InTree heading trust h (node_below n place next)
  link_in_tree n place next t l = b.tree.below h n place l.value next t l.inside l.holds l.table

  module _ (e : Event) (kept : Unbroken heading trust h e) (odd : OddStays heading trust h) (one : OneNode heading trust h) where
    abbrev now : List Noted
    now = note heading trust h e ∷ h

    -- the event is a write that links the next page below a place of n
    record Linking (n : Node) (place next : ℕ) : Type 0 where
      q : ℕ
      value : ℕ
      is : e ≡ Write q place value
      empty : held_at heading trust h n place ≡ None
      table : next_of n.kind n.level value ≡ Some next

    link_back : (n : Node) (place next : ℕ) → InTree heading trust h n → Link heading trust now n place next
        → Link heading trust h n place next ⊎ Linking n place next
    link_back n place next t l =
        elim (held_back heading trust b n.kind n.level place (note heading trust h e) h l.value l.holds) [
          | inl old ↦ inl (record { inside = l.inside; value = l.value; holds = old; table = l.table })
          | inr w ↦ by w.0 w.1 (held_at heading trust h n place) refl
        ]
      where
        by : (q : ℕ) → e ≡ Write q place l.value → (o : Option ℕ) → held_at heading trust h n place ≡ o
            → Link heading trust h n place next ⊎ Linking n place next
        by q is None k = inr (record { q = q; value = l.value; is = is; empty = k; table = l.table })
        by q is (Some old) k = inl (record {
          inside = l.inside;
          value = old;
          holds = k;
          table = table_back heading trust b n.kind n.level old l.value next (held_valid heading trust b n.kind n.level place h old k)
              (same_core heading trust h n q place l.value old (subst (λ (x : Event). Unbroken heading trust h x) is kept)
              (node_is one n (page_of place) t (sym l.inside)) k) l.table;
        })

    -- the nodes below one of the trees, up to the first new link
    descend : (Out : Node → Type 0)
        → ((n : Node) (place next : ℕ) → InTree heading trust h n → n.page ≡ page_of place → Linking n place next → (places : List ℕ) (m : Node)
        → Down heading trust now (node_below n place next) places m → m.level < 4 → Out m)
        → (places : List ℕ) (n m : Node) → InTree heading trust h n → Down heading trust now n places m → m.level < 4
        → InTree heading trust h m ⊎ Out m
    descend Out new [] n m t d below = inl (subst (λ (x : Node). InTree heading trust h x) d t)
    descend Out new (place ∷ places) n m t d below =
        elim (link_back n place d.3 t (record { inside = d.0; value = d.1; holds = d.2; table = d.4 })) [
          | inl old ↦ descend Out new places (node_below n place d.3) m (link_in_tree n place d.3 t old) d.5 below
          | inr link ↦ inr (new n place d.3 t (sym d.0) link places m d.5 below)
        ]

    -- a path below a node from which all paths end in fresh pages goes by their present values
    through_back : ((q place value : ℕ) → e ≡ Write q place value → is_fresh heading trust h (page_of place) ≡ true → ⊥)
        → (places : List ℕ) (n m : Node) → FreshPaths heading trust h n → Down heading trust now n places m → m.level < 4
        → Through heading trust h n places m
    through_back unwritten [] n m fresh d below =
        let same : n.level ≡ m.level = ap (λ (x : Node). x.level) d in
        (fresh [] (end_at n.level n.page) (omega arith) refl, d)
    through_back unwritten (place ∷ places) n m fresh d below =
        let level : m.level ≡ n.level + length (place ∷ places) = down_level heading trust now (place ∷ places) n m d in
        let here : is_fresh heading trust h n.page ≡ true = fresh [] (end_at n.level n.page) (omega arith) refl in
        let fresh_place : is_fresh heading trust h (page_of place) ≡ true
        = subst (λ (x : ℕ). is_fresh heading trust h x ≡ true) (sym d.0) here in
        let old : held_at heading trust h n place ≡ Some d.1 = unchanged n place d.1 d.2 fresh_place in
        let present : value_of (events_of h) place ≡ d.1
        = held_is_present heading trust b n.kind n.level place h d.1 (content heading trust b h odd) fresh_place old in
        let table : next_of n.kind n.level (value_of (events_of h) place) ≡ Some d.3
        = ap (next_of n.kind n.level) present ∙ d.4 in (
          here,
          d.0,
          d.3,
          table,
          through_back unwritten places (node_below n place d.3) m
              (λ more end short l. fresh (place ∷ more) end (omega arith) (here, d.0, d.3, table, l)) d.5 below,
        )
      where
        unchanged : (n : Node) (place value : ℕ) → held_at heading trust now n place ≡ Some value
            → is_fresh heading trust h (page_of place) ≡ true → held_at heading trust h n place ≡ Some value
        unchanged n place value holds there =
            elim (held_back heading trust b n.kind n.level place (note heading trust h e) h value holds) [
              | inl old ↦ old
              | inr w ↦ absurd (unwritten w.0 place value w.1 there)
            ]

    -- where the event isn't a write and the roots are old ones, nothing is added
    nothing_added : ((q place value : ℕ) → e ≡ Write q place value → ⊥)
        → ((r : Declared) → Contains (roots_of (e ∷ events_of h)) r → Contains (roots_of (events_of h)) r)
        → (m : Node) → InTree heading trust now m → InTree heading trust h m
    nothing_added no_write roots m t =
        let k : IsNode heading trust now m = b.tree.sound now m t in
        elim (descend (λ x. ⊥) (λ n place next i inside l places x d lower. no_write l.q place l.value l.is) k.places k.start m
        (start_in_tree k.root k.start (roots k.root k.declared) k.is_start (start_below heading trust now m k)) k.down k.level) [
          | inl old ↦ old
          | inr none ↦ absurd none
        ]

  -- ---- a write

  module _ (pe at value : ℕ) (kept : Unbroken heading trust h (Write pe at value)) (odd : OddStays heading trust h)
      (one : OneNode heading trust h) where
    pub write_attaches : (n : Node) (next : ℕ) → node_of heading trust h (page_of at) ≡ Some n → held_at heading trust h n at ≡ None
        → next_of n.kind n.level value ≡ Some next
        → attached_by heading trust h (Write pe at value) ≡ Some (attached_from heading trust h n.kind (suc n.level) (next ∷ []))
    write_attaches n next node empty table = rw (node, empty, table) refl

    paths_after_write : (n : Node) (next : ℕ) → node_of heading trust h (page_of at) ≡ Some n → held_at heading trust h n at ≡ None
        → next_of n.kind n.level value ≡ Some next → FreshPaths heading trust h (node_below n at next)
    paths_after_write n next node empty table [] end short l =
        subst (λ (x : End). is_fresh heading trust h x.page ≡ true) l
        (b.attaching.written h pe at value n.kind (suc n.level) (next ∷ []) (write_attaches n next node empty table)
        (kept NotFresh refl)
        next (0, suc-le-suc zero-le, refl))
    paths_after_write n next node empty table (place ∷ places) end short l =
        b.attaching.deeper h (Write pe at value) n.kind (suc n.level) (next ∷ [])
        (write_attaches n next node empty table)
        (kept NotFresh refl) next place places end (0, suc-le-suc zero-le, refl) short l

    pub added_by_write : (m : Node) → InTree heading trust (note heading trust h (Write pe at value) ∷ h) m
        → InTree heading trust h m ⊎ Linked heading trust h at value m
    added_by_write m t =
        descend (Write pe at value) kept odd one (Linked heading trust h at value)
        (λ n place next i inside l places x d lower. new n place next i inside l places x d lower) k.places k.start m
        (start_in_tree k.root k.start k.declared k.is_start
        (start_below heading trust (note heading trust h (Write pe at value) ∷ h) m k)) k.down k.level
      where
        k : IsNode heading trust (note heading trust h (Write pe at value) ∷ h) m
        k = b.tree.sound (note heading trust h (Write pe at value) ∷ h) m t

        new : (n : Node) (place next : ℕ) → InTree heading trust h n → n.page ≡ page_of place
            → Linking (Write pe at value) kept odd one n place next → (places : List ℕ) (x : Node)
            → Down heading trust (note heading trust h (Write pe at value) ∷ h) (node_below n place next) places x → x.level < 4
            → Linked heading trust h at value x
        new n place next i inside l places x d lower =
            let same : place ≡ at = let k : Write pe at value ≡ Write l.q place l.value = l.is in cc in
            let given : l.value ≡ value = let k : Write pe at value ≡ Write l.q place l.value = l.is in cc in
            let node : node_of heading trust h (page_of at) ≡ Some n = node_is one n (page_of at) i (inside ∙ ap page_of same) in
            let empty : held_at heading trust h n at ≡ None = ap (held_at heading trust h n) (sym same) ∙ l.empty in
            let table : next_of n.kind n.level value ≡ Some next = ap (next_of n.kind n.level) (sym given) ∙ l.table in
            record {
              parent = n;
              is_parent = node;
              empty = empty;
              next = next;
              table = table;
              places = places;
              through = through_back (Write pe at value) kept odd one
                  (λ q a v is fresh. not_fresh_there n (page_of a) i
                  (inside ∙ ap page_of (same ∙ (let k : Write pe at value ≡ Write q a v = is in cc))) fresh)
                  places (node_below n at next) x (paths_after_write n next node empty table)
                  (subst (λ (y : ℕ). Down heading trust (note heading trust h (Write pe at value) ∷ h) (node_below n y next) places x) same d)
                  lower;
            }

    -- two nodes that it attaches in one page are the same
    pub one_linked : (m o : Node) → m.level < 4 → o.level < 4 → Linked heading trust h at value m → Linked heading trust h at value o
        → m.page ≡ o.page → m ≡ o
    one_linked m o below below' l l' same =
        let parents : Some l'.parent ≡ Some l.parent = sym l'.is_parent ∙ l.is_parent in
        let parent : l'.parent ≡ l.parent = cc in
        let nexts : Some l'.next ≡ Some l.next
        = sym l'.table ∙ (ap (λ (x : Node). next_of x.kind x.level value) parent ∙ l.table) in
        let next : l'.next ≡ l.next = cc in
        let moved : Through heading trust h (node_below l.parent at l.next) l'.places o
        = subst (λ (x : ℕ). Through heading trust h (node_below l.parent at x) l'.places o) next
        (subst (λ (x : Node). Through heading trust h (node_below x at l'.next) l'.places o) parent l'.through) in
        let level : m.level ≡ suc l.parent.level + length l.places
        = through_level heading trust h l.places (node_below l.parent at l.next) m l.through in
        let level' : o.level ≡ suc l.parent.level + length l'.places
        = through_level heading trust h l'.places (node_below l.parent at l.next) o moved in
        let paths = b.attaching.single h (Write pe at value) l.parent.kind (suc l.parent.level) (l.next ∷ [])
        (write_attaches l.parent l.next l.is_parent l.empty l.table) (kept NotFresh refl) l.next l.next l.places l'.places
        (end_at m.level m.page) (end_at o.level o.page) (0, suc-le-suc zero-le, refl) (0, suc-le-suc zero-le, refl)
        (omega arith) (omega arith)
        (through_leads heading trust h l.places (node_below l.parent at l.next) m l.through)
        (through_leads heading trust h l'.places (node_below l.parent at l.next) o moved) same in
        through_same heading trust h l.places (node_below l.parent at l.next) m o l.through
        (subst (λ (xs : List ℕ). Through heading trust h (node_below l.parent at l.next) xs o) (sym paths.1) moved)

  -- ---- a root

  module _ (pe : ℕ) (kind : Kind) (lock : Option ℕ) (page : ℕ) (kept : Unbroken heading trust h (Root pe kind lock page))
      (odd : OddStays heading trust h) (one : OneNode heading trust h) where
    abbrev pub planted : Declared
    planted = record { page = page; kind = kind; lock = lock }

    -- the start node's kind and level are the root's
    pub start_leads : (start : Node) (places : List ℕ) (end : End) → Contains (nodes_of_root heading planted) start
        → Leads heading trust h start.kind start.level start.page places end
        → Leads heading trust h kind (start_of heading.world kind) start.page places end
    start_leads start places end c l =
        let k = b.root_pages.fields planted start c in
        subst (λ (x : ℕ). Leads heading trust h kind x start.page places end) k.1
        (subst (λ (x : Kind). Leads heading trust h x start.level start.page places end) k.0 l)

    paths_after_root : (start : Node) → Contains (nodes_of_root heading planted) start → FreshPaths heading trust h start
    paths_after_root start c [] end short l =
        let k = b.root_pages.fields planted start c in
        subst (λ (x : End). is_fresh heading trust h x.page ≡ true) l
        (b.attaching.rooted h pe kind lock page start.page (kept PageInUse refl) k.4)
    paths_after_root start c (place ∷ places) end short l =
        let k = b.root_pages.fields planted start c in
        let level : start.level ≡ start_of heading.world kind = k.1 in
        b.attaching.deeper h (Root pe kind lock page) kind (start_of heading.world kind)
        (root_pages heading.world kind page) refl
        (kept NotFresh refl) start.page place places end k.4 (omega arith) (start_leads start (place ∷ places) end c l)

    old_or_planted : (r : Declared) → Contains (roots_of (Root pe kind lock page ∷ events_of h)) r
        → Contains (roots_of (events_of h)) r ⊎ (planted ≡ r)
    old_or_planted r c =
        elim (declared_back (Root pe kind lock page) (events_of h) r
        (b.root.sound (Root pe kind lock page ∷ events_of h) r c)) [
          | inl old ↦ inl (b.root.complete (events_of h) r old)
          | inr new ↦
              let first : Root pe kind lock page ≡ Root new.0 r.kind r.lock r.page = new.1 in
              let a : page ≡ r.page = cc in
              let c : kind ≡ r.kind = cc in
              let d : lock ≡ r.lock = cc in
              inr (ap (λ (x : ℕ). record { page = x; kind = kind; lock = lock }) a
              ∙ (ap (λ (x : Kind). record { page = r.page; kind = x; lock = lock }) c
              ∙ ap (λ (x : Option ℕ). record { page = r.page; kind = r.kind; lock = x }) d))
        ]

    no_write : (q place value : ℕ) → Root pe kind lock page ≡ Write q place value → ⊥
    no_write q place value is = cc

    pub added_by_root : (m : Node) → InTree heading trust (note heading trust h (Root pe kind lock page) ∷ h) m
        → InTree heading trust h m ⊎ Planted heading trust h planted m
    added_by_root m t =
        elim (old_or_planted k.root k.declared) [
          | inl old ↦ elim (descend (Root pe kind lock page) kept odd one (λ x. ⊥)
              (λ n place next i inside l places x d lower. no_write l.q place l.value l.is) k.places k.start m
              (start_in_tree k.root k.start old k.is_start
              (start_below heading trust (note heading trust h (Root pe kind lock page) ∷ h) m k)) k.down k.level) [
                | inl there ↦ inl there
                | inr none ↦ absurd none
              ]
          | inr same ↦
              let c : Contains (nodes_of_root heading planted) k.start
              = subst (λ (x : Declared). Contains (nodes_of_root heading x) k.start) (sym same) k.is_start in
              inr (record {
                start = k.start;
                is_start = c;
                places = k.places;
                through = through_back (Root pe kind lock page) kept odd one
                    (λ q a v is fresh. no_write q a v is) k.places k.start m (paths_after_root k.start c) k.down k.level;
              })
        ]
      where
        k : IsNode heading trust (note heading trust h (Root pe kind lock page) ∷ h) m
        k = b.tree.sound (note heading trust h (Root pe kind lock page) ∷ h) m t

    pub one_planted : (m o : Node) → m.level < 4 → o.level < 4 → Planted heading trust h planted m → Planted heading trust h planted o
        → m.page ≡ o.page → m ≡ o
    one_planted m o below below' l l' same =
        let first = b.root_pages.fields planted l.start l.is_start in
        let other = b.root_pages.fields planted l'.start l'.is_start in
        let start_level : l.start.level ≡ start_of heading.world kind = first.1 in
        let start_level' : l'.start.level ≡ start_of heading.world kind = other.1 in
        let level : m.level ≡ l.start.level + length l.places = through_level heading trust h l.places l.start m l.through in
        let level' : o.level ≡ l'.start.level + length l'.places = through_level heading trust h l'.places l'.start o l'.through in
        let paths = b.attaching.single h (Root pe kind lock page) kind (start_of heading.world kind)
        (root_pages heading.world kind page)
        refl (kept NotFresh refl) l.start.page l'.start.page l.places l'.places (end_at m.level m.page) (end_at o.level o.page)
        first.4 other.4 (omega arith) (omega arith)
        (start_leads l.start l.places (end_at m.level m.page) l.is_start (through_leads heading trust h l.places l.start m l.through))
        (start_leads l'.start l'.places (end_at o.level o.page) l'.is_start (through_leads heading trust h l'.places l'.start o l'.through))
        same in
        let begin : l'.start ≡ l.start = b.root_pages.single planted l'.start l.start l'.is_start l.is_start
        (sym paths.0) in
        through_same heading trust h l.places l.start m o l.through
        (subst (λ (xs : List ℕ). Through heading trust h l.start xs o) (sym paths.1)
        (subst (λ (x : Node). Through heading trust h x l'.places o) begin l'.through))

  -- ---- any event

  -- the roots after an `unroot` are those before it but the retired one
  pub roots_after_unroot : (pe page : ℕ) (r : Declared) → Contains (roots_of (Unroot pe page ∷ events_of h)) r
      → Contains (roots_of (events_of h)) r × (r.page ≡ page → ⊥)
  roots_after_unroot pe page r c =
      let k : IsDeclared (Unroot pe page ∷ events_of h) r = b.root.sound (Unroot pe page ∷ events_of h) r c in (
        old (declared_back (Unroot pe page) (events_of h) r k),
        λ same. not_retired (Unroot pe page) (events_of h) r k pe (ap (Unroot pe) (sym same)),
      )
    where
      old : IsDeclared (events_of h) r ⊎ ((q : ℕ) × (Unroot pe page ≡ Root q r.kind r.lock r.page)) → Contains (roots_of (events_of h)) r
      old (inl d) = b.root.complete (events_of h) r d
      old (inr new) = let apart : Unroot pe page ≡ Root new.0 r.kind r.lock r.page = new.1 in cc

  module _ (odd : OddStays heading trust h) (one : OneNode heading trust h) where
    -- a node after an event was there before, or the event attaches it
    pub added : (e : Event) (m : Node) → Unbroken heading trust h e → InTree heading trust (note heading trust h e ∷ h) m
        → InTree heading trust h m ⊎ Attaches heading trust h e m
    added (Write pe at value) m kept t = added_by_write pe at value kept odd one m t
    added (Root pe kind lock page) m kept t = added_by_root pe kind lock page kept odd one m t
    added (Unroot pe page) m kept t =
        inl (nothing_added (Unroot pe page) kept odd one (λ q place value is. cc)
        (λ r c. (roots_after_unroot pe page r c).0) m t)
    added e m kept t =
        inl (nothing_added e kept odd one (λ q place value is. let apart : e ≡ Write q place value = is in cc) (λ r c. c) m t)

    pub attached_fresh : (e : Event) (m : Node) → Attaches heading trust h e m → is_fresh heading trust h m.page ≡ true
    attached_fresh (Write pe at value) m l =
        through_fresh heading trust h l.places (node_below l.parent at l.next) m l.through
    attached_fresh (Root pe kind lock page) m l = through_fresh heading trust h l.places l.start m l.through
    attached_fresh e m l = absurd l

    one_attached : (e : Event) (m o : Node) → Unbroken heading trust h e → m.level < 4 → o.level < 4
        → Attaches heading trust h e m → Attaches heading trust h e o → m.page ≡ o.page → m ≡ o
    one_attached (Write pe at value) m o kept below below' l l' same = one_linked pe at value kept odd one m o below below' l l' same
    one_attached (Root pe kind lock page) m o kept below below' l l' same =
        one_planted pe kind lock page kept odd one m o below below' l l' same
    one_attached e m o kept below below' l l' same = absurd l

    pub one_step : (e : Event) → Unbroken heading trust h e → OneNode heading trust (note heading trust h e ∷ h)
    one_step e kept m o t u same =
        let now : List Noted = note heading trust h e ∷ h in
        let below : IsNode heading trust now m = b.tree.sound now m t in
        let below' : IsNode heading trust now o = b.tree.sound now o u in
        elim (added e m kept t) [
          | inl i ↦ elim (added e o kept u) [
            | inl j ↦ one m o i j same
            | inr l ↦ absurd (not_fresh_there m o.page i same (attached_fresh e o l))
          ]
          | inr l ↦ elim (added e o kept u) [
            | inl j ↦ absurd (not_fresh_there o m.page j (sym same) (attached_fresh e m l))
            | inr l' ↦ one_attached e m o kept below.level below'.level l l' same
          ]
        ]
