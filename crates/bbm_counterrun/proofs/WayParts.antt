-- The parts of an entry that conflicts with a write over a leaf stand on the way to the place of the write.
use Rattle.bbm_counterrun.proofs.Common.{append_assoc, Patterns, start_of, Entry, Part, desc_in, is_leaf, parts_of}
use Rattle.bbm_counterrun.proofs.Common.{Begins, Chained, Fine, RunsAreFollowed, is_stale, extended, may_extend, Read}
use Rattle.bbm_counterrun.proofs.Common.{holds_leaf, extended_by, may_extend_by, Goal}
use Rattle.bbm_rules.proofs.Common.{◌≡◌, ℕ, suc, ◌+◌, arith, Bool, true, false, ◌||◌, List, [], ◌∷◌, ◌++◌, length, map}
use Rattle.bbm_rules.proofs.Common.{reverse, Option, Some, None, unwrap_or, Contains, inl, inr, refl, sym, ◌∙◌, ap}
use Rattle.bbm_rules.proofs.Common.{true≢false, and_parts, eqb-true, reverse-append, In, to_contains, Kind, desc_of}
use Rattle.bbm_rules.proofs.Common.{is_valid, needs, keeps, noted, any, Noted, page_of, Heading, Event, Declared, Above}
use Rattle.bbm_rules.proofs.Common.{Node, held_at, next_of, node_below, node_of, Down, IsNode, is_readable, same_Some}
use Rattle.std.specs.Prelude.{is_some}
use Rattle.bbm_lemmas.proofs.Bools.{and_apart}
use Rattle.bbm_rules.specs.HeldLaws.{HeldBySentence}
use Rattle.bbm_rules.specs.Tree.{tree}
use Rattle.bbm_rules.specs.TreeLaws.{PagesOfRoots, TreeBySentence}
use Rattle.bbm_histories.specs.PositionLaws.{SingleNode}
use Rattle.bbm_tlb_machine.specs.Invariant.{Holding, Placed}
use Rattle.bbm_tlb_machine.specs.Entry.{is_given_up}
use Rattle.bbm_tlb_machine.specs.MachineLaws.{EntriesAreFine}
use Rattle.bbm_counterrun.specs.RefusedWrite.{leaf_among}
use Rattle.bbm_counterrun.proofs.LeastGoals.{HasGoal, HaveGoals, goal_at}
use Rattle.bbm_tlb_machine.proofs.Descs.{CoreLaw, means_same, no_leaf_if_table}

-- the laws of the machine, of trees, of what is held and of cores
pub record WayLaws (heading : Heading) : Type 0 where
  pub runs : RunsAreFollowed
  pub fine : EntriesAreFine heading Patterns
  pub cores : CoreLaw
  pub held : HeldBySentence heading Patterns
  pub tree : TreeBySentence heading Patterns
  pub root_pages : PagesOfRoots heading
  pub one_node : SingleNode heading Patterns

-- a part whose place is in the tree, and what that holds
pub record IsOnWay (heading : Heading) (h : List Event) (part : Part) : Type 0 where
  pub node : Node
  pub in_tree : Contains (tree heading Patterns (noted heading Patterns h)) node
  pub page : page_of part.place ≡ node.page
  pub kind : node.kind ≡ part.kind
  pub level : node.level ≡ part.level
  pub value : ℕ
  pub holds : held_at heading Patterns (noted heading Patterns h) node part.place ≡ Some value
  pub valid : is_valid part.kind part.level value ≡ true
  pub same_core : needs part.kind part.level value part.value ≡ false
  pub means : desc_of part.kind part.level value ≡ desc_in part

-- ---- words on lists

abbrev part_places : List Part → List ℕ
part_places parts = map (λ (q : Part). q.place) parts

abbrev pub read_places : List Read → List ℕ
read_places rs = map (λ (r : Read). r.place) rs

abbrev goal_of : ℕ → Kind → ℕ → ℕ → Goal
goal_of place kind level value = record { place = place; kind = kind; level = level; value = value }

-- ---- the parts of a walk

pub pe_stays : (x : Entry) (rs : List Read) → (extended_by x rs).pe ≡ x.pe
pe_stays x [] = refl
pe_stays x (r ∷ rs) = pe_stays (extended x r.place r.value) rs

pub kind_stays : (x : Entry) (rs : List Read) → (extended_by x rs).last.kind ≡ x.last.kind
kind_stays x [] = refl
kind_stays x (r ∷ rs) = kind_stays (extended x r.place r.value) rs

pub parts_stay : (x : Entry) (rs : List Read) (q : Part) → In (parts_of x) q → In (parts_of (extended_by x rs)) q
parts_stay x [] q i = i
parts_stay x (r ∷ rs) q i = parts_stay (extended x r.place r.value) rs q (inr i)

-- the places of its parts, from the root down, are those of its reads
pub walk_places : (x : Entry) (rs : List Read)
    → reverse (part_places (extended_by x rs).above) ++ (extended_by x rs).last.place ∷ []
    ≡ reverse (part_places x.above) ++ x.last.place ∷ read_places rs
walk_places x [] = refl
walk_places x (r ∷ rs) =
    walk_places (extended x r.place r.value) rs
    ∙ ap (λ (ps : List ℕ). ps ++ r.place ∷ read_places rs) (reverse-append (x.last.place ∷ []) (part_places x.above))
    ∙ append_assoc (reverse (part_places x.above)) (x.last.place ∷ []) (r.place ∷ read_places rs)

-- ---- leaves and tables

-- where the part is at the place, it is a leaf
abbrev LeafAt : ℕ → Part → Type 0
LeafAt place part = part.place ≡ place → is_leaf (desc_in part) ≡ true

module _ (place value : ℕ) where
  -- so a table isn't at the place
  not_stale : (a : Part) (next : ℕ) → next_of a.kind a.level a.value ≡ Some next → LeafAt place a → is_stale place value a ≡ false
  not_stale a next e leaf = and_apart _ _ (λ s.
      absurd (true≢false (sym (leaf (eqb-true a.place place s)) ∙ no_leaf_if_table (desc_in a) (ap is_some e))))

  none_above : (part : Part) (above : List Part) → Chained part above → ((q : Part) → In above q → LeafAt place q)
      → any (is_stale place value) above ≡ false
  none_above part [] c leaf = refl
  none_above part (a ∷ above) c leaf =
      ap (λ b. b || any (is_stale place value) above) (not_stale a (page_of part.place) c.0.inside (leaf a (inl refl)))
      ∙ none_above a above c.1 (λ q i. leaf q (inr i))

  pub last_is_stale : (part : Part) (above : List Part) → Chained part above → ((q : Part) → In (part ∷ above) q → LeafAt place q)
      → any (is_stale place value) (part ∷ above) ≡ true → is_stale place value part ≡ true
  last_is_stale part above c leaf e =
      let none = none_above part above c (λ q i. leaf q (inr i)) in grind arith

module _ (heading : Heading) (laws : WayLaws heading) (h : List Event) (kept : keeps heading Patterns h ≡ true) where
  abbrev notes : List Noted
  notes = noted heading Patterns h

  -- each part of an entry stands on the way, while the entry's root wasn't given up
  pub on_way : (x : Entry) → Fine heading Patterns h x → is_given_up heading h x ≡ false → (part : Part) → In (parts_of x) part
      → IsOnWay heading h part
  on_way x f stays part i =
      let c : Contains (parts_of x) part = to_contains (parts_of x) part i in
      let p : Placed heading Patterns h x.root part = (f.rooted stays).placed part c in
      let q : Holding heading Patterns h part = (f.rooted stays).holding part c in
      let valid : is_valid part.kind part.level q.value ≡ true = laws.held.valid part.kind part.level part.place notes q.value q.holds in
      record {
        node = p.node;
        in_tree = p.in_tree;
        page = p.is_at.inside;
        kind = p.is_at.kind;
        level = p.is_at.level;
        value = q.value;
        holds = rw (p.is_at.kind, p.is_at.level) q.holds;
        valid = valid;
        same_core = q.same_core;
        means = means_same laws.cores part.kind part.level q.value part.value valid (f.shape.valid part c) q.same_core;
      }

  pub node_at : (part : Part) (w : IsOnWay heading h part) → node_of heading Patterns notes (page_of part.place) ≡ Some w.node
  node_at part w = ap (node_of heading Patterns notes) w.page ∙ laws.one_node.the_first h kept w.node w.in_tree

  goal_is : (part : Part) (w : IsOnWay heading h part)
      → goal_at heading h part.place ≡ Some (goal_of part.place part.kind part.level w.value)
  goal_is part w = rw (node_at part w, w.holds, w.kind, w.level)

  -- where the place holds a leaf, the part is one
  pub is_leaf_there : (place : ℕ) → holds_leaf heading h place ≡ true → (part : Part) → IsOnWay heading h part → LeafAt place part
  is_leaf_there place leaf part w e =
      let is : leaf_among heading Patterns notes part.place ≡ Some (is_leaf (desc_in part))
      = rw (node_at part w, w.holds, w.kind, w.level, w.means) in
      sym (ap (λ (o : Option Bool). unwrap_or o false) is) ∙ ap (holds_leaf heading h) e ∙ leaf

  -- ---- the places above

  down_from : (places : List ℕ) (n m : Node) → Down heading Patterns notes n places m
      → (m.kind ≡ n.kind) × (m.level ≡ n.level + length places)
  down_from [] n m d =
      let level : n.level ≡ m.level = ap (λ (k : Node). k.level) d in
      (sym (ap (λ (k : Node). k.kind) d), omega (arith, level))
  down_from (place ∷ places) n m d =
      let rest = down_from places (node_below n place d.3) m d.5 in
      let level : m.level ≡ suc n.level + length places = rest.1 in
      (rest.0, omega (arith, level))

  -- a node at the level at which walks start has nothing above
  none_above_start : (n : Node) → Contains (tree heading Patterns notes) n → n.level ≡ start_of heading.world n.kind → n.above ≡ []
  none_above_start n c e = by s.places s.down
    where
      s : IsNode heading Patterns notes n
      s = laws.tree.sound notes n c

      by : (places : List ℕ) → Down heading Patterns notes s.start places n → n.above ≡ []
      by [] d = sym (ap (λ (k : Node). k.above) d) ∙ (laws.root_pages.fields s.root s.start s.is_start).3
      by (place ∷ places) d =
          let r = laws.root_pages.fields s.root s.start s.is_start in
          let down = down_from (place ∷ places) s.start n d in
          let deeper : n.level ≡ s.start.level + suc (length places) = down.1 in
          let level : n.level ≡ s.start.level = e ∙ ap (start_of heading.world) (down.0 ∙ r.0) ∙ sym r.1 in
          absurd (omega (arith, deeper, level))

  pub places_above : (root : ℕ) (part : Part) (above : List Part) → Begins heading root part above → Chained part above
      → ((q : Part) → In above q → IsOnWay heading h q) → (one : IsOnWay heading h part)
      → map (λ (a : Above). a.place) one.node.above ≡ part_places above
  places_above root part [] begins c on one =
      let first : Declared = record { page = root; kind = part.kind; lock = None } in
      let level : one.node.level ≡ start_of heading.world one.node.kind
      = one.level ∙ sym begins.2.level ∙ (laws.root_pages.fields first begins.0 begins.1).1 ∙ ap (start_of heading.world) (sym one.kind) in
      ap (λ (bs : List Above). map (λ (b : Above). b.place) bs) (none_above_start one.node one.in_tree level)
  places_above root part (a ∷ above) begins c on one =
      let upper : IsOnWay heading h a = on a (inl refl) in
      let table : next_of upper.node.kind upper.node.level upper.value ≡ Some (page_of part.place)
      = rw (upper.kind, upper.level, upper.means) c.0.inside in
      let lower : Node = node_below upper.node a.place (page_of part.place) in
      let there : Contains (tree heading Patterns notes) lower
      = laws.tree.below notes upper.node a.place upper.value (page_of part.place) upper.in_tree upper.page upper.holds table in
      let same : one.node ≡ lower = same_Some one.node lower (sym (node_at part one) ∙ laws.one_node.the_first h kept lower there) in
      ap (λ (n : Node). map (λ (b : Above). b.place) n.above) same
      ∙ ap (λ (ps : List ℕ). a.place ∷ ps) (places_above root a above begins c.1 (λ q i. on q (inr i)) upper)

  -- ---- the goals of the reads

  pub first_goal : (first : List Event) (p : ℕ) (part : Part) → IsOnWay heading h part
      → is_readable heading first part.place p part.value ≡ true → is_valid part.kind part.level part.value ≡ true
      → HasGoal heading h first p part.kind part.level (record { place = part.place; value = part.value })
  first_goal first p part w readable valid = record {
    held = w.value;
    goal = goal_is part w;
    held_valid = w.valid;
    same_core = w.same_core;
    readable = readable;
    valid = valid;
  }

  pub walk_goals : (first : List Event) (x : Entry) (rs : List Read)
      → ((q : Part) → In (parts_of (extended_by x rs)) q → IsOnWay heading h q) → may_extend_by heading first x rs ≡ true
      → HaveGoals heading h first x.pe x.last.kind (suc x.last.level) rs
  walk_goals first x [] on m = tt
  walk_goals first x (r ∷ rs) on m =
      let y : Entry = extended x r.place r.value in
      let a = and_parts (may_extend heading first x r.place r.value) _ m in
      let b = and_parts _ _ a.0 in (
        first_goal first x.pe y.last (on y.last (parts_stay y rs y.last (inl refl))) (and_parts _ _ b.0).1 b.1,
        walk_goals first y rs on a.1,
      )
