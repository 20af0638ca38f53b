-- What the laws of nodes state. A history is newest first.
use Rattle.std.specs.Prelude.{◌≡◌, ℕ, ◌<◌, ◌⊎◌, ◌↔◌, Bool, true, not, ◌==◌, List, [], ◌∷◌, Option, Some, None, Contains}
use Rattle.std.specs.Prelude.{is_some}
use Rattle.bbm_histories.specs.TreeChanges.{Proper}
use Rattle.bbm_rules.specs.Attach.{attached_by}
use Rattle.bbm_rules.specs.Broken.{keeps}
use Rattle.bbm_rules.specs.Claims.Trust.{Patterns}
use Rattle.bbm_rules.specs.Held.{held}
use Rattle.bbm_rules.specs.Places.{page_of}
use Rattle.bbm_rules.specs.Prelude.{Barrier, Kind, Heading, Event, Root, Unroot, Write, Dsb}
use Rattle.bbm_rules.specs.Roots.{Declared, root_at, root_pages}
use Rattle.bbm_rules.specs.Tree.{Above, Node, next_of, node_below, nodes_of_root}
use Rattle.bbm_tree_index.specs.Paths.{Attached}
use Rattle.bbm_replay_trees.specs.Told.{AllFit, Hangs, SameCores, SameFresh, SameNodes, SameValues, View, child}
use Rattle.bbm_replay_trees.specs.Told.{core_at, is_held_by, kept, notes}
use Rattle.bbm_replay_trees.specs.TreeEvents.{leaves_trees}

-- The node of each page after an event that breaks no rule, by that before it: a `root`, and a write that attaches, add
-- the nodes that their paths through fresh pages reach; an `unroot` leaves the nodes of other roots; a DSB leaves those
-- of which each place above still holds something; a write that attaches nothing, and every other event, leave all.
pub record NodesAfter (heading : Heading) : Type 0 where
  pub root : (h : List Event) (old new : View) (pe page : ℕ) (kind : Kind) (lock : Option ℕ) → Proper heading
      → AllFit heading h → keeps heading Patterns (Root pe kind lock page ∷ h) ≡ true → SameNodes heading h old.node
      → SameFresh heading h old.fresh → SameValues h old.value
      → ((p : ℕ) (m : Node) → (new.node p ≡ Some m) ↔ ((old.node p ≡ Some m) ⊎ ((m.page ≡ p)
      × Attached old.fresh old.value (nodes_of_root heading (record { page = page; kind = kind; lock = None })) m)))
      → SameNodes heading (Root pe kind lock page ∷ h) new.node
  pub write : (h : List Event) (old new : View) (n : Node) (pe place v next : ℕ) → Proper heading → AllFit heading h
      → keeps heading Patterns (Write pe place v ∷ h) ≡ true → SameNodes heading h old.node
      → SameFresh heading h old.fresh → SameValues h old.value → SameCores heading h (core_at old)
      → old.node (page_of place) ≡ Some n → core_at old n.kind n.level place ≡ None
      → next_of n.kind n.level v ≡ Some next → ((p : ℕ) (m : Node) → (new.node p ≡ Some m) ↔ ((old.node p ≡ Some m)
      ⊎ ((m.page ≡ p) × Attached old.fresh old.value (node_below n place next ∷ []) m)))
      → SameNodes heading (Write pe place v ∷ h) new.node
  pub unroot : (h : List Event) (old new : View) (pe page : ℕ) → Proper heading
      → keeps heading Patterns (Unroot pe page ∷ h) ≡ true → SameNodes heading h old.node
      → ((p : ℕ) → new.node p ≡ kept (λ m. not (m.root == page)) (old.node p))
      → SameNodes heading (Unroot pe page ∷ h) new.node
  pub dsb : (h : List Event) (old new : View) (holds : Kind → ℕ → ℕ → Bool) (pe : ℕ) (dsb : Barrier)
      → keeps heading Patterns (Dsb pe dsb ∷ h) ≡ true → SameNodes heading h old.node
      → ((m : Node) (a : Above) → old.node m.page ≡ Some m → Contains m.above a → holds m.kind a.level a.place
      ≡ is_some (held heading Patterns m.kind a.level a.place (notes heading (Dsb pe dsb ∷ h))))
      → ((p : ℕ) → new.node p ≡ kept (is_held_by holds) (old.node p)) → SameNodes heading (Dsb pe dsb ∷ h) new.node
  pub plain_write : (h : List Event) (view : View) (pe place v : ℕ) → Proper heading
      → keeps heading Patterns (Write pe place v ∷ h) ≡ true
      → attached_by heading Patterns (notes heading h) (Write pe place v) ≡ None → SameNodes heading h view.node
      → SameNodes heading (Write pe place v ∷ h) view.node
  pub others : (h : List Event) (view : View) (e : Event) → Proper heading → keeps heading Patterns (e ∷ h) ≡ true
      → leaves_trees e ≡ true → SameNodes heading h view.node → SameNodes heading (e ∷ h) view.node

-- In a history that keeps the rules: a node is that of its page, at a level below 4; where a place of a tree holds a
-- table, its next page has the node below the place; and a node with a place above hangs there. At each place above
-- stands a node of the kind, at the level of that place, and the place holds something.
pub record Neighbours (heading : Heading) : Type 0 where
  pub own : (h : List Event) (view : View) (p : ℕ) (m : Node) → SameNodes heading h view.node → view.node p ≡ Some m
      → (m.page ≡ p) × (m.level < 4)
  pub down : (h : List Event) (view : View) (n : Node) (place next : ℕ) → keeps heading Patterns h ≡ true
      → SameNodes heading h view.node → SameCores heading h (core_at view) → view.node (page_of place) ≡ Some n
      → child (core_at view) n place ≡ Some next → view.node next ≡ Some (node_below n place next)
  pub up : (h : List Event) (view : View) (p : ℕ) (m : Node) (a : Above) (rest : List Above)
      → keeps heading Patterns h ≡ true → AllFit heading h → SameNodes heading h view.node
      → SameCores heading h (core_at view) → view.node p ≡ Some m → m.above ≡ a ∷ rest
      → Hangs view.node (core_at view) a.place m
  pub above : (h : List Event) (view : View) (p : ℕ) (m : Node) (a : Above) → keeps heading Patterns h ≡ true
      → SameNodes heading h view.node → SameCores heading h (core_at view) → view.node p ≡ Some m → Contains m.above a
      → (n : Node) × (view.node (page_of a.place) ≡ Some n) × (n.kind ≡ m.kind) × (n.level ≡ a.level)
      × (is_some (core_at view n.kind n.level a.place) ≡ true)

-- A page of a tree that hangs at no place is one of the pages of a declared root, of the root's kind.
abbrev pub Starts : Heading → Type 0
Starts heading = (h : List Event) (view : View) (p : ℕ) (m : Node) → SameNodes heading h view.node
    → view.node p ≡ Some m → m.above ≡ [] → (r : Declared) × (root_at h r.page ≡ Some r) × (m.root ≡ r.page) × (m.kind
    ≡ r.kind) × Contains (root_pages heading.world r.kind r.page) m.page
