-- The node of each page after an event.
use Rattle.bbm_rules.proofs.Common.{◌≡◌, ℕ, ◌⊎◌, ◌↔◌, not, Bool, true, cond, ◌&&◌, ◌==◌, List, [], ◌∷◌, Option, Some}
use Rattle.bbm_rules.proofs.Common.{None, is_some, Contains, refl, sym, ◌∙◌, ap, subst, inl, inr, true≢false, Kind}
use Rattle.bbm_rules.proofs.Common.{Event, Root, Unroot, Write, Dsb, Barrier, attached_by, keeps, Patterns, noted, held}
use Rattle.bbm_rules.proofs.Common.{every, Noted, is_fresh, page_of, Above, Node, held_at, next_of, node_below, node_of}
use Rattle.bbm_rules.proofs.Common.{nodes_of_root, In, from_contains, to_contains, arith, false_from_ne_true}
use Rattle.bbm_lemmas.proofs.Words.{none_is, some_is}
use Rattle.bbm_events.specs.Heading.{Heading}
use Rattle.bbm_histories.specs.TreeChanges.{Attaches, Proper, Through as ThroughIn}
use Rattle.bbm_histories.specs.TreeSteps.{holds_above, is_under, node_where}
use Rattle.bbm_replay_trees.specs.BelowTrees.{Below}
use Rattle.bbm_replay_trees.specs.TreeEvents.{leaves_trees}
use Rattle.bbm_tree_index.specs.Paths.{Attached, Through}
use Rattle.bbm_replay_trees.specs.Told.{AllFit, SameFresh, SameNodes, SameValues, is_held_by, kept, notes}
use Rattle.bbm_tree_index.proofs.Places.{at_page}
use Rattle.bbm_replay_trees.proofs.PathLemmas.{table_at, value_is}
use Rattle.bbm_histories.proofs.FreshLemmas.{fresh_is_outside}

-- a fresh page is in no tree
pub fresh_outside : (heading : Heading) (ns : List Noted) (page : ℕ) → is_fresh heading Patterns ns page ≡ true
    → node_of heading Patterns ns page ≡ None
fresh_outside heading ns page e =
    none_is (node_of heading Patterns ns page) (fresh_is_outside heading Patterns ns page e)

-- ---- what is kept

pub kept_is : (test : Node → Bool) (o : Option Node) → kept test o ≡ node_where test o
kept_is test o = grind arith

every_same : (f g : Above → Bool) (xs : List Above) → ((a : Above) → In xs a → f a ≡ g a) → every f xs ≡ every g xs
every_same f g [] same = refl
every_same f g (x ∷ xs) same =
    ap (λ b. b && every f xs) (same x (inl refl)) ∙ ap (λ b. g x && b) (every_same f g xs (λ a i. same a (inr i)))

module _ (heading : Heading) (b : Below heading) (h : List Event) where
  abbrev marks : List Noted
  marks = notes heading h

  -- ---- paths through fresh pages

  module _ (fit : AllFit heading h) (fresh : ℕ → Bool) (value : ℕ → ℕ) (same_fresh : SameFresh heading h fresh)
      (same_value : SameValues h value) where
    through_mine : (places : List ℕ) (n m : Node) → ThroughIn heading Patterns marks n places m → Through fresh value n places m
    through_mine [] n m t = (same_fresh n.page ∙ t.0, t.1)
    through_mine (place ∷ places) n m t = (
      same_fresh n.page ∙ t.0,
      table_at heading b h fit fresh value same_fresh same_value n.kind n.level n.page place t.2 t.3 t.1,
      t.2,
      ap (next_of n.kind n.level) (value_is heading b h fit fresh value same_fresh same_value place) ∙ t.3,
      through_mine places (node_below n place t.2) m t.4,
    )

    through_theirs : (places : List ℕ) (n m : Node) → Through fresh value n places m → ThroughIn heading Patterns marks n places m
    through_theirs [] n m t = (sym (same_fresh n.page) ∙ t.0, t.1)
    through_theirs (place ∷ places) n m t = (
      sym (same_fresh n.page) ∙ t.0,
      at_page n.page place t.1,
      t.2,
      ap (next_of n.kind n.level) (sym (value_is heading b h fit fresh value same_fresh same_value place)) ∙ t.3,
      through_theirs places (node_below n place t.2) m t.4,
    )

    pub root_mine : (pe page : ℕ) (kind : Kind) (lock : Option ℕ) (m : Node)
        → Attaches heading Patterns marks (Root pe kind lock page) m
        → Attached fresh value (nodes_of_root heading (record { page = page; kind = kind; lock = None })) m
    root_mine pe page kind lock m p = record {
      start = p.start;
      is_start = p.is_start;
      places = p.places;
      through = through_mine p.places p.start m p.through;
    }

    pub root_theirs : (pe page : ℕ) (kind : Kind) (lock : Option ℕ) (m : Node)
        → Attached fresh value (nodes_of_root heading (record { page = page; kind = kind; lock = None })) m
        → Attaches heading Patterns marks (Root pe kind lock page) m
    root_theirs pe page kind lock m a = record {
      start = a.start;
      is_start = a.is_start;
      places = a.places;
      through = through_theirs a.places a.start m a.through;
    }

    module _ (n : Node) (pe place v next : ℕ) (node_is : node_of heading Patterns marks (page_of place) ≡ Some n)
        (empty : held_at heading Patterns marks n place ≡ None) (table : next_of n.kind n.level v ≡ Some next) where
      pub write_mine : (m : Node) → Attaches heading Patterns marks (Write pe place v) m
          → Attached fresh value (node_below n place next ∷ []) m
      write_mine m l =
          let both : Some n ≡ Some l.parent = sym node_is ∙ l.is_parent in
          let same : l.parent ≡ n = cc in
          let tables : Some next ≡ Some l.next
          = sym table ∙ (ap (λ (x : Node). next_of x.kind x.level v) (sym same) ∙ l.table) in
          let same_next : l.next ≡ next = cc in
          record {
            start = node_below n place next;
            is_start = to_contains (node_below n place next ∷ []) (node_below n place next) (inl refl);
            places = l.places;
            through = through_mine l.places (node_below n place next) m
                (rw (← same, ← same_next) l.through);
          }

      pub write_theirs : (m : Node) → Attached fresh value (node_below n place next ∷ []) m
          → Attaches heading Patterns marks (Write pe place v) m
      write_theirs m a = elim (from_contains (node_below n place next ∷ []) a.start a.is_start) [
        | inl same ↦ record {
          parent = n;
          is_parent = node_is;
          empty = empty;
          next = next;
          table = table;
          places = a.places;
          through = through_theirs a.places (node_below n place next) m
              (subst (λ (x : Node). Through fresh value x a.places m) (sym same) a.through);
        }
        | inr i ↦ absurd i
      ]

  -- ---- an event that attaches

  through_fresh : (places : List ℕ) (n m : Node) → ThroughIn heading Patterns marks n places m
      → is_fresh heading Patterns marks m.page ≡ true
  through_fresh [] n m t = subst (λ (x : Node). is_fresh heading Patterns marks x.page ≡ true) t.1 t.0
  through_fresh (place ∷ places) n m t = through_fresh places (node_below n place t.2) m t.4

  pub attached_fresh : (e : Event) (m : Node) → Attaches heading Patterns marks e m → is_fresh heading Patterns marks m.page ≡ true
  attached_fresh (Write pe place v) m l = through_fresh l.places (node_below l.parent place l.next) m l.through
  attached_fresh (Root pe kind lock page) m p = through_fresh p.places p.start m p.through
  attached_fresh e m a = absurd a

  module _ (node : ℕ → Option Node) (same : SameNodes heading h node) where
    pub after_attach : (next_node : ℕ → Option Node) (e : Event) → Proper heading → keeps heading Patterns (e ∷ h) ≡ true
        → ((q : ℕ) (dsb : Barrier) → e ≡ Dsb q dsb → ⊥) → ((q first : ℕ) → e ≡ Unroot q first → ⊥)
        → (IsAdded : Node → Type 0) → ((m : Node) → Attaches heading Patterns marks e m → IsAdded m)
        → ((m : Node) → IsAdded m → Attaches heading Patterns marks e m)
        → ((p : ℕ) (m : Node) → (next_node p ≡ Some m) ↔ ((node p ≡ Some m) ⊎ ((m.page ≡ p) × IsAdded m)))
        → SameNodes heading (e ∷ h) next_node
    after_attach next_node e proper kept_rules no_dsb no_unroot IsAdded mine theirs iff p = by (next_node p) refl
      where
        known : (m : Node) → (node p ≡ Some m) ⊎ ((m.page ≡ p) × IsAdded m)
            → node_of heading Patterns (noted heading Patterns (e ∷ h)) p ≡ Some m
        known m (inl old) =
            b.node_step.others h e proper kept_rules no_dsb no_unroot p (λ x a in_page.
            let gone : node_of heading Patterns marks x.page ≡ None
            = fresh_outside heading marks x.page (attached_fresh e x a) in
            let none : None ≡ Some m
            = sym gone ∙ (ap (node_of heading Patterns marks) in_page ∙ (sym (same p) ∙ old)) in cc)
            ∙ (sym (same p) ∙ old)
        known m (inr a) =
            ap (node_of heading Patterns (noted heading Patterns (e ∷ h))) (sym a.0)
            ∙ b.node_step.attached h e proper kept_rules m (theirs m a.1)

        by : (o : Option Node) → next_node p ≡ o → next_node p ≡ node_of heading Patterns (noted heading Patterns (e ∷ h)) p
        by (Some m) k = k ∙ sym (known m ((iff p m).0 k))
        by None k =
            k ∙ sym (b.node_step.others h e proper kept_rules no_dsb no_unroot p (λ x a in_page.
            let apart : None ≡ Some x = sym k ∙ (iff p x).1 (inr (in_page, mine x a)) in cc)
            ∙ (sym (same p) ∙ none_is (node p) (false_from_ne_true (is_some (node p)) (λ some.
            let old = some_is (node p) some in
            let apart : None ≡ Some old.0 = sym k ∙ (iff p old.0).1 (inl old.1) in absurd cc))))

    -- ---- an event that attaches nothing

    pub after_nothing : (e : Event) → Proper heading → keeps heading Patterns (e ∷ h) ≡ true
        → ((q : ℕ) (dsb : Barrier) → e ≡ Dsb q dsb → ⊥) → ((q first : ℕ) → e ≡ Unroot q first → ⊥)
        → attached_by heading Patterns marks e ≡ None → SameNodes heading (e ∷ h) node
    after_nothing e proper kept_rules no_dsb no_unroot none p =
        same p ∙ sym (b.node_step.others h e proper kept_rules no_dsb no_unroot p
        (λ m a in_page. b.node_step.unattached marks e none m a))

    pub after_quiet : (e : Event) → Proper heading → keeps heading Patterns (e ∷ h) ≡ true → leaves_trees e ≡ true
        → SameNodes heading (e ∷ h) node
    after_quiet e proper kept_rules quiet =
        after_nothing e proper kept_rules (λ q dsb k. true≢false (sym quiet ∙ ap leaves_trees k))
        (λ q first k. true≢false (sym quiet ∙ ap leaves_trees k)) (no_attach e quiet)
      where
        no_attach : (e : Event) → leaves_trees e ≡ true → attached_by heading Patterns marks e ≡ None
        no_attach e k = grind arith

    -- ---- pages that leave

    pub after_unroot : (next_node : ℕ → Option Node) (pe page : ℕ) → Proper heading
        → keeps heading Patterns (Unroot pe page ∷ h) ≡ true
        → ((p : ℕ) → next_node p ≡ kept (λ m. not (m.root == page)) (node p))
        → SameNodes heading (Unroot pe page ∷ h) next_node
    after_unroot next_node pe page proper kept_rules is p =
        is p ∙ (kept_is (λ m. not (m.root == page)) (node p)
        ∙ (ap (node_where (λ m. not (is_under page m))) (same p)
        ∙ sym (b.node_step.unroot h pe page proper kept_rules p)))

    pub after_dsb : (next_node : ℕ → Option Node) (holds : Kind → ℕ → ℕ → Bool) (pe : ℕ) (dsb : Barrier)
        → keeps heading Patterns (Dsb pe dsb ∷ h) ≡ true
        → ((m : Node) (a : Above) → node m.page ≡ Some m → Contains m.above a → holds m.kind a.level a.place
        ≡ is_some (held heading Patterns m.kind a.level a.place (notes heading (Dsb pe dsb ∷ h))))
        → ((p : ℕ) → next_node p ≡ kept (is_held_by holds) (node p)) → SameNodes heading (Dsb pe dsb ∷ h) next_node
    after_dsb next_node holds pe dsb kept_rules told is p =
        is p ∙ (by (node p) refl ∙ (ap (node_where (holds_above heading Patterns (notes heading (Dsb pe dsb ∷ h)))) (same p)
        ∙ sym (b.node_step.dsb h pe dsb kept_rules p)))
      where
        by : (o : Option Node) → node p ≡ o → kept (is_held_by holds) o ≡ node_where (holds_above heading Patterns (notes heading (Dsb pe dsb ∷ h))) o
        by None k = refl
        by (Some m) k =
            let in_page : m.page ≡ p = (b.tree.taken marks p m (sym (same p) ∙ k)).1 in
            let there : node m.page ≡ Some m = ap node in_page ∙ k in
            ap (λ (c : Bool). cond c (Some m) None)
            (every_same (λ a. holds m.kind a.level a.place)
            (λ a. is_some (held heading Patterns m.kind a.level a.place (notes heading (Dsb pe dsb ∷ h)))) m.above
            (λ a i. told m a there (to_contains m.above a i)))
