-- Where the pages of trees hang.
use Rattle.bbm_rules.proofs.Common.{◌≡◌, ℕ, ◌+◌, ◌<◌, ◌⊎◌, inl, inr, List, [], ◌∷◌, length, Option, Some, Contains}
use Rattle.bbm_rules.proofs.Common.{refl, sym, ◌∙◌, ap, subst, arith, Event, Patterns, Declared, root_at, root_pages}
use Rattle.bbm_rules.proofs.Common.{roots_of, Node, IsNode, suc, true, None, is_some, option_and_then, Kind, core_in}
use Rattle.bbm_rules.proofs.Common.{core_of, desc_of, Core, Desc, Invalid, Table, Leaf, keeps, Noted, page_of}
use Rattle.bbm_rules.proofs.Common.{Above, held_at, next_of, node_below, node_of, Down, written_places, In}
use Rattle.bbm_rules.proofs.Common.{from_contains}
use Rattle.bbm_events.specs.Heading.{Heading}
use Rattle.bbm_rules.specs.Tree.{tree, next_in as next_in_desc}
use Rattle.bbm_replay_trees.specs.BelowTrees.{Below}
use Rattle.bbm_replay_trees.specs.Told.{SameNodes, notes, AllFit, Hangs, SameCores, next_in}
use Rattle.bbm_replay_trees.proofs.FitLemmas.{is_at_page}
use Rattle.bbm_rules.proofs.HeldLemmas.{held_is_written}

-- ---- the core of a table

pub table_core : (d : Desc) → next_in (core_in d) ≡ next_in_desc d
table_core Invalid = refl
table_core (Table next ns) = refl
table_core (Leaf out attrs share global contiguous) = refl

pub table_held : (kind : Kind) (level : ℕ) (o : Option ℕ) (next : ℕ) → next_in (option_and_then (core_of kind level) o) ≡ Some next
    → (v : ℕ) × (o ≡ Some v) × (next_of kind level v ≡ Some next)
table_held kind level None next e = let none : None ≡ Some next = e in cc
table_held kind level (Some v) next e = (v, refl, sym (table_core (desc_of kind level v)) ∙ e)

-- ---- paths

module _ (heading : Heading) (b : Below heading) (h : List Event) where
  abbrev marks : List Noted
  marks = notes heading h

  -- a node below another
  pub record Under (m : Node) : Type 0 where
    pub parent : Node
    pub there : Contains (tree heading Patterns marks) parent
    pub place : ℕ
    pub inside : page_of place ≡ parent.page
    pub value : ℕ
    pub holds : held_at heading Patterns marks parent place ≡ Some value
    pub table : next_of parent.kind parent.level value ≡ Some m.page
    pub made : m ≡ node_below parent place m.page

  pub down_under : (places : List ℕ) (n m : Node) → Contains (tree heading Patterns marks) n → Down heading Patterns marks n places m
      → (n ≡ m) ⊎ Under m
  down_under [] n m c d = inl d
  down_under (place ∷ places) n m c d =
      let next : Node = node_below n place d.3 in
      let there : Contains (tree heading Patterns marks) next = b.tree.below marks n place d.1 d.3 c d.0 d.2 d.4 in
      elim (down_under places next m there d.5) [
        | inl same ↦ inr (subst Under same (record {
          parent = n;
          there = c;
          place = place;
          inside = d.0;
          value = d.1;
          holds = d.2;
          table = d.4;
          made = refl;
        }))
        | inr under ↦ inr under
      ]

  pub down_level : (places : List ℕ) (n m : Node) → Down heading Patterns marks n places m → m.level ≡ n.level + length places
  down_level [] n m d = let same : n.level ≡ m.level = ap (λ (x : Node). x.level) d in omega (arith, same)
  down_level (place ∷ places) n m d =
      let rest : m.level ≡ suc n.level + length places = down_level places (node_below n place d.3) m d.5 in omega (arith, rest)

  -- a node of a tree is one of a root, or lies below another
  root_or_under : (m : Node) → (k : IsNode heading Patterns marks m) → (k.start ≡ m) ⊎ Under m
  root_or_under m k =
      let deep : m.level ≡ k.start.level + length k.places = down_level k.places k.start m k.down in
      let low : m.level < 4 = k.level in
      down_under k.places k.start m (b.tree.complete marks k.start (record {
        root = k.root;
        declared = k.declared;
        start = k.start;
        is_start = k.is_start;
        places = [];
        down = refl;
        level = omega (arith, deep, low);
      })) k.down

  -- with a place above, it lies below another
  pub hangs : (m : Node) → Contains (tree heading Patterns marks) m → (a : Above) (rest : List Above) → m.above ≡ a ∷ rest → Under m
  hangs m c a rest above =
      let k : IsNode heading Patterns marks m = b.tree.sound marks m c in
      elim (root_or_under m k) [
        | inl same ↦ (let none : [] ≡ a ∷ rest
            = sym (b.root_pages.fields k.root k.start k.is_start).3 ∙ (ap (λ (x : Node). x.above) same ∙ above) in cc)
        | inr under ↦ under
      ]

  -- a page of a tree that hangs at no place is one of a declared root
  pub start_of : (found : (r : Declared) → Contains (roots_of h) r → root_at h r.page ≡ Some r) → (node : ℕ → Option Node)
      → SameNodes heading h node → (p : ℕ) (m : Node) → node p ≡ Some m → m.above ≡ []
      → (r : Declared) × (root_at h r.page ≡ Some r) × (m.root ≡ r.page) × (m.kind ≡ r.kind)
      × Contains (root_pages heading.world r.kind r.page) m.page
  start_of found node same p m is none =
      let k : IsNode heading Patterns marks m = b.tree.sound marks m (b.tree.taken marks p m (sym (same p) ∙ is)).0 in
      let one : k.start ≡ m = elim (root_or_under m k) [
        | inl start ↦ start
        | inr u ↦ (let bad : [] ≡ record { place = u.place; level = u.parent.level } ∷ u.parent.above
            = sym (sym (ap (λ (x : Node). x.above) u.made) ∙ none) in absurd cc)
      ] in
      let says = b.root_pages.fields k.root k.start k.is_start in (
        k.root,
        found k.root (subst (λ es. Contains (roots_of es) k.root) (b.notes_keep_the_events h) k.declared),
        sym (ap (λ (x : Node). x.root) one) ∙ says.2,
        sym (ap (λ (x : Node). x.kind) one) ∙ says.0,
        subst (λ (x : Node). Contains (root_pages heading.world k.root.kind k.root.page) x.page) one says.4,
      )

  -- ---- by what a checker says

  module _ (node : ℕ → Option Node) (same : SameNodes heading h node) where
    pub own : (p : ℕ) (m : Node) → node p ≡ Some m → (m.page ≡ p) × (m.level < 4)
    own p m k =
        let t = b.tree.taken marks p m (sym (same p) ∙ k) in
        let i : IsNode heading Patterns marks m = b.tree.sound marks m t.0 in
        (t.1, i.level)

    module _ (core : Kind → ℕ → ℕ → Option Core) (same_core : SameCores heading h core) (kept_rules : keeps heading Patterns h ≡ true) where
      node_is : (n : Node) → Contains (tree heading Patterns marks) n → node n.page ≡ Some n
      node_is n c = same n.page ∙ b.one_node.the_first h kept_rules n c

      pub down : (n : Node) (place next : ℕ) → node (page_of place) ≡ Some n
          → next_in (core n.kind n.level place) ≡ Some next → node next ≡ Some (node_below n place next)
      down n place next k table =
          let at : node_of heading Patterns marks (page_of place) ≡ Some n = sym (same (page_of place)) ∙ k in
          let t = b.tree.taken marks (page_of place) n at in
          let v = table_held n.kind n.level (held_at heading Patterns marks n place) next (ap next_in (sym (same_core n place at)) ∙ table) in
          node_is (node_below n place next) (b.tree.below marks n place v.0 next t.0 (sym t.1) v.1 v.2)

      -- the core of the place at which a node hangs
      core_is : (m : Node) → (u : Under m) → core u.parent.kind u.parent.level u.place ≡ core_of u.parent.kind u.parent.level u.value
      core_is m u =
          same_core u.parent u.place (ap (node_of heading Patterns marks) u.inside
          ∙ b.one_node.the_first h kept_rules u.parent u.there)
          ∙ ap (option_and_then (core_of u.parent.kind u.parent.level)) u.holds

      hang_at : AllFit heading h → (m : Node) → (u : Under m) → Hangs node core u.place m
      hang_at fit m u = record {
        parent = u.parent;
        is_parent = ap node u.inside ∙ node_is u.parent u.there;
        at = is_at_page heading h fit u.parent.page u.place
            (subst (λ es. In (written_places es) u.place) (b.notes_keep_the_events h)
            (held_is_written heading Patterns u.place u.parent.kind u.parent.level marks u.value u.holds)) u.inside;
        table = ap next_in (core_is m u) ∙ (table_core (desc_of u.parent.kind u.parent.level u.value) ∙ u.table);
        is_below = u.made;
      }

      pub up : AllFit heading h → (p : ℕ) (m : Node) (a : Above) (rest : List Above) → node p ≡ Some m → m.above ≡ a ∷ rest
          → Hangs node core a.place m
      up fit p m a rest k above =
          let u : Under m = hangs m (b.tree.taken marks p m (sym (same p) ∙ k)).0 a rest above in
          let both : record { place = u.place; level = u.parent.level } ∷ u.parent.above ≡ a ∷ rest
          = sym (ap (λ (y : Node). y.above) u.made) ∙ above in
          let first : record { place = u.place; level = u.parent.level } ≡ a = cc in
          subst (λ (x : Above). Hangs node core x.place m) first (hang_at fit m u)

      -- a node of the kind at a place above, which holds something
      abbrev Stands : Kind → Above → Type 0
      Stands kind a = (n : Node) × (node (page_of a.place) ≡ Some n) × (n.kind ≡ kind) × (n.level ≡ a.level)
          × (is_some (core n.kind n.level a.place) ≡ true)

      stands_under : (m : Node) → (u : Under m) → Stands m.kind (record { place = u.place; level = u.parent.level })
      stands_under m u = (
        u.parent,
        ap node u.inside ∙ node_is u.parent u.there,
        sym (ap (λ (x : Node). x.kind) u.made),
        refl,
        ap is_some (core_is m u) ∙ (b.core_where_valid u.parent.kind u.parent.level u.value
            ∙ b.held.valid u.parent.kind u.parent.level u.place marks u.value u.holds),
      )

      stands : (xs : List Above) (m : Node) → Contains (tree heading Patterns marks) m → m.above ≡ xs → (a : Above) → In xs a
          → Stands m.kind a
      stands [] m c above a i = absurd i
      stands (x ∷ xs) m c above a i =
          let u : Under m = hangs m c x xs above in
          let both : record { place = u.place; level = u.parent.level } ∷ u.parent.above ≡ x ∷ xs
          = sym (ap (λ (y : Node). y.above) u.made) ∙ above in
          let first : record { place = u.place; level = u.parent.level } ≡ x = cc in
          let rest : u.parent.above ≡ xs = cc in
          elim i [
            | inl e ↦ subst (Stands m.kind) (first ∙ e) (stands_under m u)
            | inr j ↦ subst (λ (k : Kind). Stands k a) (sym (ap (λ (y : Node). y.kind) u.made)) (stands xs u.parent u.there rest a j)
          ]

      pub above : (p : ℕ) (m : Node) (a : Above) → node p ≡ Some m → Contains m.above a → Stands m.kind a
      above p m a k c =
          stands m.above m (b.tree.taken marks p m (sym (same p) ∙ k)).0 refl a (from_contains m.above a c)
