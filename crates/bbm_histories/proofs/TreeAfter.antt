-- The trees after an event, exactly.
use Rattle.bbm_histories.proofs.Common.{Heading, Event, Root, Unroot, Write, Dsb, PageInUse, WrongWorld, Below}
use Rattle.bbm_histories.proofs.Common.{Attaches, InTree, InTreeAfter, Linked, Planted, Proper, StillHeld, Through}
use Rattle.bbm_rules.proofs.Common.{◌≡◌, ℕ, ◌<◌, ◌⊎◌, not, Bool, true, false, cond, ◌==◌, List, [], ◌∷◌, Option, Some}
use Rattle.bbm_rules.proofs.Common.{None, is_some, Contains, refl, sym, ◌∙◌, ap, subst, inl, inr, arith, true≢false}
use Rattle.bbm_rules.proofs.Common.{not-suc-le-zero, suc-le-suc, zero-le, eq-eqb, eqb-true, not-false, Kind, is_valid}
use Rattle.bbm_rules.proofs.Common.{Trust, note, held, Noted, events_of, is_fresh, page_of, Declared, kind_in_world}
use Rattle.bbm_rules.proofs.Common.{roots_of, start_of, Above, Node, held_at, in_tree, next_of, node_below, node_of}
use Rattle.bbm_rules.proofs.Common.{Down, IsNode, value_of, contains_head, contains_more, contains_cases}
use Rattle.bbm_histories.specs.TreeChanges.{InTreeAfterDsb}
use Rattle.bbm_histories.proofs.CoreLemmas.{table_is_valid, table_on}
use Rattle.bbm_histories.proofs.HeldSteps.{IsDsb, held_after_dsb, held_change}
use Rattle.bbm_histories.proofs.Induction.{Unbroken}
use Rattle.bbm_rules.proofs.RuleLemmas.{if_none}
use Rattle.bbm_histories.proofs.Invariants.{Invariants}
use Rattle.bbm_histories.proofs.RootLemmas.{declared_on}
use Rattle.bbm_histories.proofs.TreeSteps.{Link, added, is_tracked, link_in_tree, node_is, not_fresh_there}
use Rattle.bbm_histories.proofs.TreeSteps.{roots_after_unroot, start_below, start_in_tree}

-- ---- elements

-- ---- what a path keeps

down_kind : (heading : Heading) (trust : Trust) (h : List Noted) (places : List ℕ) (n m : Node) → Down heading trust h n places m
    → m.kind ≡ n.kind
down_kind heading trust h [] n m d = ap (λ (x : Node). x.kind) (sym d)
down_kind heading trust h (place ∷ places) n m d = down_kind heading trust h places (node_below n place d.3) m d.5

pub down_root : (heading : Heading) (trust : Trust) (h : List Noted) (places : List ℕ) (n m : Node) → Down heading trust h n places m
    → m.root ≡ n.root
down_root heading trust h [] n m d = ap (λ (x : Node). x.root) (sym d)
down_root heading trust h (place ∷ places) n m d = down_root heading trust h places (node_below n place d.3) m d.5

-- what stands above a node stands above those below it
above_stays : (heading : Heading) (trust : Trust) (h : List Noted) (places : List ℕ) (n m : Node) → Down heading trust h n places m
    → (a : Above) → Contains n.above a → Contains m.above a
above_stays heading trust h [] n m d a c = subst (λ (x : Node). Contains x.above a) d c
above_stays heading trust h (place ∷ places) n m d a c =
    above_stays heading trust h places (node_below n place d.3) m d.5 a
    (contains_more n.above (record { place = place; level = n.level }) a c)

-- the places of a path hold what they do
pub held_above : (heading : Heading) (trust : Trust) (x : List Noted) (places : List ℕ) (n m : Node) → Down heading trust x n places m
    → StillHeld heading trust x n → StillHeld heading trust x m
held_above heading trust x [] n m d s = subst (λ (y : Node). StillHeld heading trust x y) d s
held_above heading trust x (place ∷ places) n m d s =
    held_above heading trust x places (node_below n place d.3) m d.5
    (λ a c. elim (contains_cases n.above (record { place = place; level = n.level }) a c) [
      | inl here ↦ subst (λ (y : Above). is_some (held heading trust n.kind y.level y.place x) ≡ true) here (ap is_some d.2)
      | inr there ↦ s a there
    ])

module _ (heading : Heading) (trust : Trust) (b : Below heading trust) (h : List Noted) (i : Invariants heading trust h)
    (e : Event) (kept : Unbroken heading trust h e) where
  abbrev now : List Noted
  now = note heading trust h e ∷ h

  -- a path of the old trees, where each link stays
  down_on : ((n : Node) (place next : ℕ) → InTree heading trust h n → Link heading trust h n place next → Link heading trust now n place next)
      → (places : List ℕ) (n m : Node) → InTree heading trust h n → Down heading trust h n places m → Down heading trust now n places m
  down_on on [] n m t d = d
  down_on on (place ∷ places) n m t d =
      let old : Link heading trust h n place d.3 = record { inside = d.0; value = d.1; holds = d.2; table = d.4 } in
      let new : Link heading trust now n place d.3 = on n place d.3 t old in (
        d.0,
        new.value,
        new.holds,
        d.3,
        new.table,
        down_on on places (node_below n place d.3) m (link_in_tree heading trust b h n place d.3 t old) d.5,
      )

  -- without a DSB each link stays
  link_on : Proper heading → (IsDsb e → ⊥) → (n : Node) (place next : ℕ) → InTree heading trust h n
      → Link heading trust h n place next → Link heading trust now n place next
  link_on proper other n place next t l =
      elim (held_change heading trust b h n place e proper.some_pe kept
      (is_tracked heading trust b h n (page_of place) t (sym l.inside))
      (node_is heading trust b h i.one n (page_of place) t (sym l.inside))) [
        | inl same ↦ record { inside = l.inside; value = l.value; holds = same ∙ l.holds; table = l.table }
        | inr change ↦ elim change [
          | inl w ↦ record {
            inside = l.inside;
            value = w.1;
            holds = w.4;
            table = table_on heading trust b n.kind n.level l.value w.1 next w.3 (w.5 l.value l.holds) l.table;
          }
          | inr d ↦ absurd (other (d.0, d.1, d.2))
        ]
      ]

  pub old_stays : Proper heading → (IsDsb e → ⊥) → (m : Node) → (k : IsNode heading trust h m)
      → Contains (roots_of (e ∷ events_of h)) k.root → InTree heading trust now m
  old_stays proper other m k declared =
      b.tree.complete now m (record {
        root = k.root;
        declared = declared;
        start = k.start;
        is_start = k.is_start;
        places = k.places;
        down = down_on (link_on proper other) k.places k.start m
            (start_in_tree heading trust b h k.root k.start k.declared k.is_start (start_below heading trust h m k)) k.down;
        level = k.level;
      })

  -- a path through fresh pages is one of held tables, where the event leaves their values
  through_on : Proper heading → ((place : ℕ) → is_fresh heading trust h (page_of place) ≡ true
      → value_of (e ∷ events_of h) place ≡ value_of (events_of h) place) → (places : List ℕ) (n m : Node)
      → InTree heading trust now n → Through heading trust h n places m → InTree heading trust now m
  through_on proper unchanged [] n m t p = subst (λ (x : Node). InTree heading trust now x) p.1 t
  through_on proper unchanged (place ∷ places) n m t p =
      let fresh : is_fresh heading trust h (page_of place) ≡ true
      = subst (λ (x : ℕ). is_fresh heading trust h x ≡ true) (sym p.1) p.0 in
      let same : value_of (e ∷ events_of h) place ≡ value_of (events_of h) place = unchanged place fresh in
      let table : next_of n.kind n.level (value_of (e ∷ events_of h) place) ≡ Some p.2 = ap (next_of n.kind n.level) same ∙ p.3 in
      through_on proper unchanged places (node_below n place p.2) m
      (b.tree.below now n place (value_of (e ∷ events_of h) place) p.2 t p.1
      (b.held.live n.kind n.level place now proper.some_pe
      (table_is_valid n.kind n.level (value_of (e ∷ events_of h) place) p.2 table)) table) p.4

  -- ---- a DSB

  still_up : (x : List Noted) (places : List ℕ) (n m : Node) → Down heading trust h n places m → StillHeld heading trust x m
      → StillHeld heading trust x n
  still_up x places n m d s a c =
      let same : m.kind ≡ n.kind = down_kind heading trust h places n m d in
      subst (λ (y : Kind). is_some (held heading trust y a.level a.place x) ≡ true) same
      (s a (above_stays heading trust h places n m d a c))

  dsb_down : IsDsb e → (places : List ℕ) (n m : Node) → Down heading trust h n places m → StillHeld heading trust now m
      → Down heading trust now n places m
  dsb_down dsb [] n m d s = d
  dsb_down dsb (place ∷ places) n m d s =
      let below : StillHeld heading trust now (node_below n place d.3) = still_up now places (node_below n place d.3) m d.5 s in
      let some : is_some (held heading trust n.kind n.level place now) ≡ true
      = below (record { place = place; level = n.level }) (contains_head n.above (record { place = place; level = n.level })) in
      (d.0, d.1, still n place d.1 d.2 some, d.3, d.4, dsb_down dsb places (node_below n place d.3) m d.5 s)
    where
      still : (n : Node) (place value : ℕ) → held_at heading trust h n place ≡ Some value
          → is_some (held heading trust n.kind n.level place now) ≡ true → held_at heading trust now n place ≡ Some value
      still n place value holds some =
          elim (held_after_dsb heading trust b n.kind n.level place (note heading trust h e) h dsb) [
            | inl same ↦ same ∙ holds
            | inr none ↦ absurd (true≢false (sym some ∙ ap is_some none))
          ]

-- ---- any event

module _ (heading : Heading) (trust : Trust) (b : Below heading trust) (h : List Noted) (i : Invariants heading trust h) where
  pub dsb_step : (e : Event) → Unbroken heading trust h e → IsDsb e → (m : Node)
      → (InTree heading trust (note heading trust h e ∷ h) m → InTreeAfterDsb heading trust h e m)
      × (InTreeAfterDsb heading trust h e m → InTree heading trust (note heading trust h e ∷ h) m)
  dsb_step e kept dsb m = (there, back)
    where
      now : List Noted
      now = note heading trust h e ∷ h

      there : InTree heading trust (note heading trust h e ∷ h) m → InTreeAfterDsb heading trust h e m
      there t =
          let k : IsNode heading trust (note heading trust h e ∷ h) m = b.tree.sound (note heading trust h e ∷ h) m t in
          let begin = b.root_pages.fields k.root k.start k.is_start in (
            dsb_adds_nothing (added heading trust b h i.odd i.one e m kept t),
            held_above heading trust (note heading trust h e ∷ h) k.places k.start m k.down
                (λ a c. absurd (none a (subst (λ (xs : List Above). Contains xs a) begin.3 c))),
          )
        where
          none : (a : Above) → Contains [] a → ⊥
          none a c = not-suc-le-zero c.1

          dsb_adds_nothing : InTree heading trust h m ⊎ Attaches heading trust h e m → InTree heading trust h m
          dsb_adds_nothing (inl t) = t
          dsb_adds_nothing (inr a) = absurd (subst (λ (x : Event). Attaches heading trust h x m) dsb.2 a)

      back : InTreeAfterDsb heading trust h e m → InTree heading trust (note heading trust h e ∷ h) m
      back s =
          let k : IsNode heading trust h m = b.tree.sound h m s.0 in
          b.tree.complete (note heading trust h e ∷ h) m (record {
            root = k.root;
            declared = subst (λ (x : Event). Contains (roots_of (x ∷ events_of h)) k.root) (sym dsb.2) k.declared;
            start = k.start;
            is_start = k.is_start;
            places = k.places;
            down = dsb_down heading trust b h i e kept dsb k.places k.start m k.down s.1;
            level = k.level;
          })

  stays_declared : (e : Event) (r : Declared) → Contains (roots_of (events_of h)) r
      → ((q : ℕ) (kind : Kind) (lock : Option ℕ) → e ≡ Root q kind lock r.page → ⊥) → ((q : ℕ) → e ≡ Unroot q r.page → ⊥)
      → Contains (roots_of (e ∷ events_of h)) r
  stays_declared e r c no_root no_unroot =
      b.root.complete (e ∷ events_of h) r
      (declared_on e (events_of h) r (b.root.sound (events_of h) r c) no_root no_unroot)

  -- the pages of the root of a node are in the trees, so no `root` names its first page again
  first_is_taken : Proper heading → (pe : ℕ) (kind : Kind) (lock : Option ℕ) (page : ℕ) → Unbroken heading trust h (Root pe kind lock page)
      → (m : Node) (k : IsNode heading trust h m) → page ≡ k.root.page → ⊥
  first_is_taken proper pe kind lock page kept m k same =
      let known : kind_in_world heading.world kind ≡ true
      = not-false (kind_in_world heading.world kind) (if_none (not (kind_in_world heading.world kind)) 0 (kept WrongWorld refl)) in
      let fresh : is_fresh heading trust h page ≡ true
      = b.attaching.rooted h pe kind lock page page (kept PageInUse refl)
      (b.root_pages.named kind page known (proper.some_page kind)) in
      let first = b.root_pages.first k.root k.start k.is_start in
      let fields = b.root_pages.fields k.root first.0 first.1 in
      let fields' = b.root_pages.fields k.root k.start k.is_start in
      let below : k.start.level < 4 = start_below heading trust h m k in
      let one : first.0.level ≡ start_of heading.world k.root.kind = fields.1 in
      let other : k.start.level ≡ start_of heading.world k.root.kind = fields'.1 in
      not_fresh_there heading trust b h first.0 page
      (start_in_tree heading trust b h k.root first.0 k.declared first.1 (omega arith)) (first.2 ∙ sym same) fresh

  -- the nodes that an event other than a DSB and an `unroot` leaves
  pub still_there : Proper heading → (e : Event) → Unbroken heading trust h e → (IsDsb e → ⊥)
      → ((q page : ℕ) → e ≡ Unroot q page → ⊥) → (m : Node) → InTree heading trust h m
      → InTree heading trust (note heading trust h e ∷ h) m
  still_there proper e kept no_dsb no_unroot m t =
      let k : IsNode heading trust h m = b.tree.sound h m t in
      old_stays heading trust b h i e kept proper no_dsb m k
      (stays_declared e k.root k.declared
      (λ q kind lock is. first_is_taken proper q kind lock k.root.page (subst (λ (x : Event). Unbroken heading trust h x) is kept) m k refl)
      (λ q is. no_unroot q k.root.page is))

  pub linked_is_there : Proper heading → (pe at value : ℕ) → Unbroken heading trust h (Write pe at value) → (m : Node)
      → Linked heading trust h at value m → InTree heading trust (note heading trust h (Write pe at value) ∷ h) m
  linked_is_there proper pe at value kept m l =
      let now : List Noted = note heading trust h (Write pe at value) ∷ h in
      let taken = b.tree.taken h (page_of at) l.parent l.is_parent in
      let parent : InTree heading trust now l.parent = still_there proper (Write pe at value) kept
      (λ d. let apart : Write pe at value ≡ Dsb d.0 d.1 = d.2 in cc) (λ q page is. cc) l.parent taken.0 in
      let present : value_of (Write pe at value ∷ events_of h) at ≡ value
      = ap (λ (c : Bool). cond c value (value_of (events_of h) at)) (eq-eqb at at refl) in
      let valid : is_valid l.parent.kind l.parent.level (value_of (Write pe at value ∷ events_of h) at) ≡ true
      = subst (λ (x : ℕ). is_valid l.parent.kind l.parent.level x ≡ true) (sym present)
      (table_is_valid l.parent.kind l.parent.level value l.next l.table) in
      let holds : held_at heading trust now l.parent at ≡ Some value
      = b.held.live l.parent.kind l.parent.level at now proper.some_pe valid ∙ ap Some present in
      through_on heading trust b h i (Write pe at value) kept proper (unchanged taken.0 taken.1) l.places (node_below l.parent at l.next) m
      (b.tree.below now l.parent at value l.next parent (sym taken.1) holds l.table) l.through
    where
      unchanged : InTree heading trust h l.parent → l.parent.page ≡ page_of at → (place : ℕ)
          → is_fresh heading trust h (page_of place) ≡ true
          → value_of (Write pe at value ∷ events_of h) place ≡ value_of (events_of h) place
      unchanged t page place fresh = by (at == place) refl
        where
          by : (c : Bool) → (at == place) ≡ c → cond c value (value_of (events_of h) place) ≡ value_of (events_of h) place
          by true c = absurd (not_fresh_there heading trust b h l.parent (page_of place) t
              (page ∙ ap page_of (eqb-true at place c)) fresh)
          by false c = refl

  pub planted_is_there : Proper heading → (pe : ℕ) (kind : Kind) (lock : Option ℕ) (page : ℕ)
      → Unbroken heading trust h (Root pe kind lock page) → (m : Node)
      → Planted heading trust h (record { page = page; kind = kind; lock = lock }) m
      → InTree heading trust (note heading trust h (Root pe kind lock page) ∷ h) m
  planted_is_there proper pe kind lock page kept m l =
      let r : Declared = record { page = page; kind = kind; lock = lock } in
      let now : List Noted = note heading trust h (Root pe kind lock page) ∷ h in
      let fields = b.root_pages.fields r l.start l.is_start in
      let level : l.start.level < 4 = subst (λ (x : ℕ). x < 4) (sym fields.1) (proper.start kind) in
      through_on heading trust b h i (Root pe kind lock page) kept proper (λ place fresh. refl) l.places l.start m
      (b.tree.complete now l.start (record {
        root = r;
        declared = (0, suc-le-suc zero-le, refl);
        start = l.start;
        is_start = l.is_start;
        places = [];
        down = refl;
        level = level;
      })) l.through

  unroot_there : (pe page : ℕ) → Unbroken heading trust h (Unroot pe page) → (m : Node)
      → InTree heading trust (note heading trust h (Unroot pe page) ∷ h) m → InTree heading trust h m × (m.root ≡ page → ⊥)
  unroot_there pe page kept m t =
      let k : IsNode heading trust (note heading trust h (Unroot pe page) ∷ h) m
      = b.tree.sound (note heading trust h (Unroot pe page) ∷ h) m t in
      let begin = b.root_pages.fields k.root k.start k.is_start in
      let root : m.root ≡ k.root.page
      = down_root heading trust (note heading trust h (Unroot pe page) ∷ h) k.places k.start m k.down ∙ begin.2 in (
        old (added heading trust b h i.odd i.one (Unroot pe page) m kept t),
        λ same. (roots_after_unroot heading trust b h pe page k.root k.declared).1 (sym root ∙ same),
      )
    where
      old : InTree heading trust h m ⊎ Attaches heading trust h (Unroot pe page) m → InTree heading trust h m
      old (inl t) = t
      old (inr a) = absurd a

  unroot_back : Proper heading → (pe page : ℕ) → Unbroken heading trust h (Unroot pe page) → (m : Node)
      → InTree heading trust h m × (m.root ≡ page → ⊥) → InTree heading trust (note heading trust h (Unroot pe page) ∷ h) m
  unroot_back proper pe page kept m s =
      let k : IsNode heading trust h m = b.tree.sound h m s.0 in
      let begin = b.root_pages.fields k.root k.start k.is_start in
      let root : m.root ≡ k.root.page = down_root heading trust h k.places k.start m k.down ∙ begin.2 in
      old_stays heading trust b h i (Unroot pe page) kept proper (λ d. let apart : Unroot pe page ≡ Dsb d.0 d.1 = d.2 in cc) m k
      (stays_declared (Unroot pe page) k.root k.declared (λ q kind lock is. cc)
      (λ q is. let same : page ≡ k.root.page = cc in s.1 (root ∙ sym same)))

  -- an event that takes nothing out and attaches nothing
  quiet_step : Proper heading → (e : Event) → Unbroken heading trust h e → (IsDsb e → ⊥)
      → ((q page : ℕ) → e ≡ Unroot q page → ⊥) → ((m : Node) → Attaches heading trust h e m → ⊥) → (m : Node)
      → (InTree heading trust (note heading trust h e ∷ h) m → InTree heading trust h m)
      × (InTree heading trust h m → InTree heading trust (note heading trust h e ∷ h) m)
  quiet_step proper e kept no_dsb no_unroot none m = (
    λ t. by (added heading trust b h i.odd i.one e m kept t),
    λ t. still_there proper e kept no_dsb no_unroot m t,
  )
    where
      by : InTree heading trust h m ⊎ Attaches heading trust h e m → InTree heading trust h m
      by (inl t) = t
      by (inr a) = absurd (none m a)

  pub step : Proper heading → (e : Event) → Unbroken heading trust h e → (IsDsb e → ⊥) → (m : Node)
      → (InTree heading trust (note heading trust h e ∷ h) m → InTreeAfter heading trust h e m)
      × (InTreeAfter heading trust h e m → InTree heading trust (note heading trust h e ∷ h) m)
  step proper (Write pe at value) kept no_dsb m = (
    λ t. added heading trust b h i.odd i.one (Write pe at value) m kept t,
    λ s. elim s [
      | inl t ↦ still_there proper (Write pe at value) kept no_dsb (λ q page is. cc) m t
      | inr l ↦ linked_is_there proper pe at value kept m l
    ],
  )
  step proper (Root pe kind lock page) kept no_dsb m = (
    λ t. added heading trust b h i.odd i.one (Root pe kind lock page) m kept t,
    λ s. elim s [
      | inl t ↦ still_there proper (Root pe kind lock page) kept no_dsb (λ q page is. cc) m t
      | inr l ↦ planted_is_there proper pe kind lock page kept m l
    ],
  )
  step proper (Unroot pe page) kept no_dsb m = (unroot_there pe page kept m, unroot_back proper pe page kept m)
  step proper (Dsb pe dsb) kept no_dsb m = absurd (no_dsb (pe, dsb, refl))
  step proper e kept no_dsb m =
      quiet_step proper e kept no_dsb (λ q page is. let apart : e ≡ Unroot q page = is in cc) (λ x a. a) m

  -- a node that an event doesn't leave in the trees lies in a page without one
  pub kept_or_left : Proper heading → (e : Event) → Unbroken heading trust h e → (n : Node) → InTree heading trust h n
      → InTree heading trust (note heading trust h e ∷ h) n
      ⊎ ((in_tree heading trust (note heading trust h e ∷ h) n.page ≡ false)
      × (IsDsb e ⊎ ((q : ℕ) × (e ≡ Unroot q n.root))))
  kept_or_left proper (Dsb pe dsb) kept n t = by (node_of heading trust (note heading trust h (Dsb pe dsb) ∷ h) n.page) refl
    where
      by : (o : Option Node) → node_of heading trust (note heading trust h (Dsb pe dsb) ∷ h) n.page ≡ o
          → InTree heading trust (note heading trust h (Dsb pe dsb) ∷ h) n
          ⊎ ((in_tree heading trust (note heading trust h (Dsb pe dsb) ∷ h) n.page ≡ false)
          × (IsDsb (Dsb pe dsb) ⊎ ((q : ℕ) × (Dsb pe dsb ≡ Unroot q n.root))))
      by None e = inr (ap is_some e, inl (pe, dsb, refl))
      by (Some m) e =
          let k = b.tree.taken (note heading trust h (Dsb pe dsb) ∷ h) n.page m e in
          let old : InTree heading trust h m = ((dsb_step (Dsb pe dsb) kept (pe, dsb, refl) m).0 k.0).0 in
          inl (subst (λ (x : Node). InTree heading trust (note heading trust h (Dsb pe dsb) ∷ h) x) (i.one m n old t k.1) k.0)
  kept_or_left proper (Unroot pe page) kept n t = by (n.root == page) refl
    where
      by : (c : Bool) → (n.root == page) ≡ c
          → InTree heading trust (note heading trust h (Unroot pe page) ∷ h) n
          ⊎ ((in_tree heading trust (note heading trust h (Unroot pe page) ∷ h) n.page ≡ false)
          × (IsDsb (Unroot pe page) ⊎ ((q : ℕ) × (Unroot pe page ≡ Unroot q n.root))))
      by false c = inl (unroot_back proper pe page kept n (t, λ same. true≢false (sym (eq-eqb n.root page same) ∙ c)))
      by true c = go (node_of heading trust (note heading trust h (Unroot pe page) ∷ h) n.page) refl
        where
          go : (o : Option Node) → node_of heading trust (note heading trust h (Unroot pe page) ∷ h) n.page ≡ o
              → InTree heading trust (note heading trust h (Unroot pe page) ∷ h) n
              ⊎ ((in_tree heading trust (note heading trust h (Unroot pe page) ∷ h) n.page ≡ false)
              × (IsDsb (Unroot pe page) ⊎ ((q : ℕ) × (Unroot pe page ≡ Unroot q n.root))))
          go None e = inr (ap is_some e, inr (pe, ap (Unroot pe) (sym (eqb-true n.root page c))))
          go (Some m) e =
              let k = b.tree.taken (note heading trust h (Unroot pe page) ∷ h) n.page m e in
              let old : InTree heading trust h m = (unroot_there pe page kept m k.0).0 in
              inl (subst (λ (x : Node). InTree heading trust (note heading trust h (Unroot pe page) ∷ h) x) (i.one m n old t k.1) k.0)
  kept_or_left proper e kept n t =
      inl (still_there proper e kept (λ d. let apart : e ≡ Dsb d.0 d.1 = d.2 in cc)
      (λ q page is. let apart : e ≡ Unroot q page = is in cc) n t)
