-- The nodes of the trees by their parents, and the node that is taken for a page.
use Rattle.bbm_rules.proofs.Common.{◌≡◌, ℕ, zero, suc, ◌+◌, ◌*◌, ◌<◌, Bool, true, false, cond, ◌⊎◌, ◌==◌, List, [], ◌∷◌}
use Rattle.bbm_rules.proofs.Common.{◌++◌, Option, Some, is_some, option_and_then, flat_map, refl, sym, ◌∙◌, ap, subst}
use Rattle.bbm_rules.proofs.Common.{inl, inr, arith, Kind, In, from_filter, in_append, in_left, in_right, to_filter}
use Rattle.bbm_rules.proofs.Common.{to_flat, Trust, Noted, events_of, page_of, Declared, input_pages, root_pages}
use Rattle.bbm_rules.proofs.Common.{roots_of, start_of, Node, child_at, children, held_at, next_of, node_below, node_of}
use Rattle.bbm_rules.proofs.Common.{nodes_of_pages, nodes_of_root, starts_at, places_in, written_places}
use Rattle.std.proofs.Common.{eqb-true, eq-eqb}
use Rattle.std.proofs.lemmas.Option.{option_and_then_some}
use Rattle.bbm_events.specs.Heading.{Heading}
use Rattle.bbm_rules.proofs.HeldLemmas.{held_is_written}
use Rattle.bbm_lemmas.proofs.Elements.{from_filter_map, from_flat, to_filter_map}
use Rattle.bbm_rules.proofs.ListLemmas.{finds, found}
use Rattle.bbm_rules.specs.Roots.{first_input_page}
use Rattle.bbm_rules.specs.Tree.{nodes_at, tree}

-- ---- the pages of a root

pub level_of_page : (kind : Kind) (level root base : ℕ) (pages : List ℕ) (n : Node)
    → In (nodes_of_pages kind level root base pages) n → n.level ≡ level
level_of_page kind level root base [] n i = absurd i
level_of_page kind level root base (page ∷ pages) n (inl e) = ap (λ (x : Node). x.level) (sym e)
level_of_page kind level root base (page ∷ pages) n (inr i) =
    level_of_page kind level root (base + 512 * input_pages level) pages n i

starts_by : (heading : Heading) (level : ℕ) (r : Declared) (n : Node) (b : Bool) → (start_of heading.world r.kind == level) ≡ b
    → In (cond b (nodes_of_root heading r) []) n → (start_of heading.world r.kind ≡ level) × In (nodes_of_root heading r) n
starts_by heading level r n true e i = (eqb-true (start_of heading.world r.kind) level e, i)
starts_by heading level r n false e i = absurd i

pub starts : (heading : Heading) (level : ℕ) (r : Declared) (n : Node) → In (starts_at heading level r) n
    → (start_of heading.world r.kind ≡ level) × In (nodes_of_root heading r) n
starts heading level r n i = starts_by heading level r n (start_of heading.world r.kind == level) refl i

-- a node at the level that is the page of a root
pub record Rooted (heading : Heading) (h : List Noted) (level : ℕ) (n : Node) : Type 0 where
  pub root : Declared
  pub declared : In (roots_of (events_of h)) root
  pub start : start_of heading.world root.kind ≡ level
  pub page_of_it : In (nodes_of_root heading root) n

rooted : (heading : Heading) (h : List Noted) (level : ℕ) (n : Node)
    → In (flat_map (starts_at heading level) (roots_of (events_of h))) n → Rooted heading h level n
rooted heading h level n i =
    let r = from_flat (starts_at heading level) (roots_of (events_of h)) n i in
    let s = starts heading level r.0 n r.2 in
    record { root = r.0; declared = r.1; start = s.0; page_of_it = s.1 }

unrooted : (heading : Heading) (h : List Noted) (level : ℕ) (n : Node)
    → Rooted heading h level n → In (flat_map (starts_at heading level) (roots_of (events_of h))) n
unrooted heading h level n r =
    to_flat (starts_at heading level) (roots_of (events_of h)) r.root n r.declared
    (subst (λ (b : Bool). In (cond b (nodes_of_root heading r.root) []) n)
    (sym (eq-eqb (start_of heading.world r.root.kind) level r.start)) r.page_of_it)

-- ---- the page below a place

module _ (heading : Heading) (trust : Trust) where
  -- the node c stands below a place of n that holds a table
  pub record Child (h : List Noted) (n c : Node) : Type 0 where
    pub place : ℕ
    pub value : ℕ
    pub inside : page_of place ≡ n.page
    pub holds : held_at heading trust h n place ≡ Some value
    pub next : next_of n.kind n.level value ≡ Some c.page
    pub made : node_below n place c.page ≡ c
    pub kind : c.kind ≡ n.kind
    pub level : c.level ≡ suc n.level

  -- the steps of child_at
  abbrev link_at : Node → ℕ → ℕ → Option Node
  link_at n place next = Some (node_below n place next)

  abbrev below_value : Node → ℕ → ℕ → Option Node
  below_value n place value = option_and_then (link_at n place) (next_of n.kind n.level value)

  child_by : (h : List Noted) (n c : Node) (place : ℕ) → page_of place ≡ n.page → child_at heading trust h n place ≡ Some c
      → Child h n c
  child_by h n c place inside e =
      option_and_then_some (below_value n place) (held_at heading trust h n place) c e
      (λ value holds k. option_and_then_some (link_at n place) (next_of n.kind n.level value) c k
      (λ next link made.
      let same : node_below n place next ≡ c = cc in
      let page : next ≡ c.page = ap (λ (x : Node). x.page) same in
      record {
        place = place;
        value = value;
        inside = inside;
        holds = holds;
        next = link ∙ ap Some page;
        made = ap (node_below n place) (sym page) ∙ same;
        kind = ap (λ (x : Node). x.kind) (sym same);
        level = ap (λ (x : Node). x.level) (sym same);
      }))

  pub from_children : (h : List Noted) (n c : Node) → In (children heading trust h n) c → Child h n c
  from_children h n c i =
      let r = from_filter_map (child_at heading trust h n) (places_in (events_of h) n.page) c i in
      let k = from_filter (λ (place : ℕ). page_of place == n.page) (written_places (events_of h)) r.0 r.1 in
      child_by h n c r.0 (eqb-true (page_of r.0) n.page k.1) r.2

  -- its place is among those of the page
  pub child_place : (h : List Noted) (n c : Node) (k : Child h n c) → In (places_in (events_of h) n.page) k.place
  child_place h n c k =
      to_filter (λ (place : ℕ). page_of place == n.page) (written_places (events_of h)) k.place
      (held_is_written heading trust k.place n.kind n.level h k.value k.holds) (eq-eqb (page_of k.place) n.page k.inside)

  child_is : (h : List Noted) (n c : Node) (k : Child h n c) → child_at heading trust h n k.place ≡ Some c
  child_is h n c k =
      ap (option_and_then (below_value n k.place)) k.holds ∙ (ap (option_and_then (link_at n k.place)) k.next ∙ ap Some k.made)

  pub to_children : (h : List Noted) (n c : Node) → Child h n c → In (children heading trust h n) c
  to_children h n c k =
      to_filter_map (child_at heading trust h n) (places_in (events_of h) n.page) k.place c
      (child_place h n c k) (child_is h n c k)

  -- ---- the nodes level by level

  pub at_start : (h : List Noted) (n : Node) → In (nodes_at heading trust h zero) n → Rooted heading h zero n
  at_start h n i = rooted heading h zero n i

  pub at_level : (h : List Noted) (level : ℕ) (n : Node) → In (nodes_at heading trust h (suc level)) n
      → Rooted heading h (suc level) n ⊎ ((p : Node) × In (nodes_at heading trust h level) p × Child h p n)
  at_level h level n i =
      elim (in_append (flat_map (starts_at heading (suc level)) (roots_of (events_of h)))
      (flat_map (children heading trust h) (nodes_at heading trust h level)) n i) [
        | inl here ↦ inl (rooted heading h (suc level) n here)
        | inr below ↦
            let r = from_flat (children heading trust h) (nodes_at heading trust h level) n below in
            inr (r.0, r.1, from_children h r.0 n r.2)
      ]

  pub root_at_level : (h : List Noted) (level : ℕ) (n : Node) → Rooted heading h level n → In (nodes_at heading trust h level) n
  root_at_level h zero n r = unrooted heading h zero n r
  root_at_level h (suc level) n r =
      in_left (flat_map (starts_at heading (suc level)) (roots_of (events_of h)))
      (flat_map (children heading trust h) (nodes_at heading trust h level)) n (unrooted heading h (suc level) n r)

  pub child_at_level : (h : List Noted) (level : ℕ) (p n : Node) → In (nodes_at heading trust h level) p → Child h p n
      → In (nodes_at heading trust h (suc level)) n
  child_at_level h level p n i k =
      in_right (flat_map (starts_at heading (suc level)) (roots_of (events_of h)))
      (flat_map (children heading trust h) (nodes_at heading trust h level)) n
      (to_flat (children heading trust h) (nodes_at heading trust h level) p n i (to_children h p n k))

  root_level : (h : List Noted) (level : ℕ) (n : Node) → Rooted heading h level n → n.level ≡ level
  root_level h level n r =
      level_of_page r.root.kind (start_of heading.world r.root.kind) r.root.page (first_input_page heading.world r.root.kind)
      (root_pages heading.world r.root.kind r.root.page) n r.page_of_it ∙ r.start

  pub level_is : (h : List Noted) (level : ℕ) (n : Node) → In (nodes_at heading trust h level) n → n.level ≡ level
  level_is h zero n i = root_level h zero n (at_start h n i)
  level_is h (suc level) n i =
      elim (at_level h level n i) [
        | inl r ↦ root_level h (suc level) n r
        | inr r ↦ r.2.level ∙ ap suc (level_is h level r.0 r.1)
      ]

  -- ---- the nodes of the trees

  pub record InTree (h : List Noted) (n : Node) : Type 0 where
    pub level : ℕ
    pub below : level < 4
    pub there : In (nodes_at heading trust h level) n

  pub to_tree : (h : List Noted) (n : Node) → InTree h n → In (tree heading trust h) n
  unfolding tree
  to_tree h n t = by_level t.level t.below t.there
    where
      two : List Node
      two = nodes_at heading trust h 0 ++ nodes_at heading trust h 1

      three : List Node
      three = two ++ nodes_at heading trust h 2

      by_level : (level : ℕ) → level < 4 → In (nodes_at heading trust h level) n → In (three ++ nodes_at heading trust h 3) n
      by_level zero b i =
          in_left three (nodes_at heading trust h 3) n (in_left two (nodes_at heading trust h 2) n
          (in_left (nodes_at heading trust h 0) (nodes_at heading trust h 1) n i))
      by_level (suc zero) b i =
          in_left three (nodes_at heading trust h 3) n (in_left two (nodes_at heading trust h 2) n
          (in_right (nodes_at heading trust h 0) (nodes_at heading trust h 1) n i))
      by_level (suc (suc zero)) b i =
          in_left three (nodes_at heading trust h 3) n (in_right two (nodes_at heading trust h 2) n i)
      by_level (suc (suc (suc zero))) b i = in_right three (nodes_at heading trust h 3) n i
      by_level (suc (suc (suc (suc level)))) b i = absurd (omega arith)

  pub from_tree : (h : List Noted) (n : Node) → In (tree heading trust h) n → InTree h n
  unfolding tree
  from_tree h n i =
      elim (in_append three (nodes_at heading trust h 3) n i) [
        | inr k ↦ record { level = 3; below = omega arith; there = k }
        | inl j ↦ elim (in_append two (nodes_at heading trust h 2) n j) [
          | inr k ↦ record { level = 2; below = omega arith; there = k }
          | inl k ↦ elim (in_append (nodes_at heading trust h 0) (nodes_at heading trust h 1) n k) [
            | inl l ↦ record { level = 0; below = omega arith; there = l }
            | inr l ↦ record { level = 1; below = omega arith; there = l }
          ]
        ]
      ]
    where
      two : List Node
      two = nodes_at heading trust h 0 ++ nodes_at heading trust h 1

      three : List Node
      three = two ++ nodes_at heading trust h 2

  -- ---- the node that is taken for a page

  pub has_node : (h : List Noted) (n : Node) (page : ℕ) → InTree h n → n.page ≡ page → is_some (node_of heading trust h page) ≡ true
  has_node h n page t e = finds (λ (n : Node). n.page == page) (tree heading trust h) n (to_tree h n t) (eq-eqb n.page page e)

  pub node_found : (h : List Noted) (n : Node) (page : ℕ) → node_of heading trust h page ≡ Some n → InTree h n × (n.page ≡ page)
  node_found h n page e =
      let r = found (λ (n : Node). n.page == page) (tree heading trust h) n e in (from_tree h n r.0, eqb-true n.page page r.1)
