-- What one event does to the trees, and to what their places hold. Source: project's own choice.
use Rattle.std.specs.Prelude.{◌≡◌, ℕ, ◌<◌, ◌⊎◌, true, false, List, [], ◌∷◌, ◌++◌, Option, Some, None, is_some, Contains}
use Rattle.bbm_descriptor.specs.Descriptor.{desc_of, is_valid, needs}
use Rattle.bbm_rules.specs.Prelude.{Kind, Ttbr0, Heading, Event, Root, Unroot, Write, Dsb, Barrier}
use Rattle.bbm_rules.specs.Claims.{Trust}
use Rattle.bbm_rules.specs.Covers.{is_global, note}
use Rattle.bbm_rules.specs.Held.{ValidWrite, held, last_valid}
use Rattle.bbm_rules.specs.Notes.{Noted, events_of}
use Rattle.bbm_rules.specs.Pages.{is_fresh}
use Rattle.bbm_rules.specs.Places.{page_of}
use Rattle.bbm_rules.specs.Roots.{Declared, page_count, start_of}
use Rattle.bbm_rules.specs.Tree.{Above, Node, held_at, is_childless, next_of, node_below, node_of, nodes_of_root, tree}
use Rattle.bbm_rules.specs.Values.{value_of}

-- A proper heading: there is a PE, each root has a page, and walks start at a level below 4. So is every heading that a
-- header can say.
pub record Proper (heading : Heading) : Type 0 where
  pub some_pe : 0 < heading.pes
  pub some_page : (kind : Kind) → 0 < page_count heading.world kind
  pub start : (kind : Kind) → start_of heading.world kind < 4

-- Held changes: what a place of a tree holds after an event, by what it held before. A valid write makes its value
-- held, and there was nothing before, or a value of the same core; a DSB may end it; no other event changes it.
abbrev pub HeldChange : Kind → ℕ → ℕ → Event → Option ℕ → Option ℕ → Type 0
HeldChange kind level place e before after = (after ≡ before)
    ⊎ ((q value : ℕ) × (e ≡ Write q place value) × (is_valid kind level value ≡ true) × (after ≡ Some value)
    × ((old : ℕ) → before ≡ Some old → needs kind level old value ≡ false))
    ⊎ ((q : ℕ) × (dsb : Barrier) × (e ≡ Dsb q dsb) × (after ≡ None))

module _ (heading : Heading) (trust : Trust) where
  module _ (h : List Noted) where
    -- the node is one of the trees
    abbrev pub InTree : Node → Type 0
    InTree n = Contains (tree heading trust h) n

    -- The node m lies below n by these places, from n down: each is a place of a fresh page and has a table value, and
    -- the next is in its next page. The last page is fresh, too.
    abbrev pub Through : Node → List ℕ → Node → Type 0
    Through n [] m = (is_fresh heading trust h n.page ≡ true) × (n ≡ m)
    Through n (place ∷ places) m = (is_fresh heading trust h n.page ≡ true) × (page_of place ≡ n.page)
        × (next : ℕ) × (next_of n.kind n.level (value_of (events_of h) place) ≡ Some next)
        × Through (node_below n place next) places m

    -- The write attaches the node: its place is one of a tree and holds nothing, the value is a table, and the node is
    -- that of its next page or lies below it.
    pub record Linked (place value : ℕ) (m : Node) : Type 0 where
      pub parent : Node
      pub is_parent : node_of heading trust h (page_of place) ≡ Some parent
      pub empty : held_at heading trust h parent place ≡ None
      pub next : ℕ
      pub table : next_of parent.kind parent.level value ≡ Some next
      pub places : List ℕ
      pub through : Through (node_below parent place next) places m

    -- The `root` attaches the node: it is that of one of its pages or lies below one.
    pub record Planted (root : Declared) (m : Node) : Type 0 where
      pub start : Node
      pub is_start : Contains (nodes_of_root heading root) start
      pub places : List ℕ
      pub through : Through start places m

    -- The event attaches the node.
    abbrev pub Attaches : Event → Node → Type 0
    Attaches (Write pe place value) m = Linked place value m
    Attaches (Root pe kind lock page) m = Planted (record { page = page; kind = kind; lock = lock }) m
    Attaches _ m = ⊥

    -- each place above the node still holds something
    abbrev pub StillHeld : Node → Type 0
    StillHeld m = (above : Above) → Contains m.above above
        → is_some (held heading trust m.kind above.level above.place h) ≡ true

    -- The tree after an event, by the tree before it. A write and a `root` add what they attach; an `unroot` takes what
    -- lies below its root; a DSB takes what lies below a place that it ends to hold anything; no other event changes
    -- it.
    abbrev pub InTreeAfter : Event → Node → Type 0
    InTreeAfter (Write pe place value) m = InTree m ⊎ Attaches (Write pe place value) m
    InTreeAfter (Root pe kind lock page) m = InTree m ⊎ Attaches (Root pe kind lock page) m
    InTreeAfter (Unroot pe page) m = InTree m × (m.root ≡ page → ⊥)
    InTreeAfter _ m = InTree m

  -- the same for a DSB, by what is held after it
  abbrev pub InTreeAfterDsb : List Noted → Event → Node → Type 0
  InTreeAfterDsb h e m = InTree h m × StillHeld (note heading trust h e ∷ h) m

  -- The place of a node holds a value, and its last valid write is this one.
  pub record HeldBy (h : List Noted) (n : Node) (place value : ℕ) (w : ValidWrite) : Type 0 where
    pub in_tree : InTree h n
    pub inside : page_of place ≡ n.page
    pub holds : held_at heading trust h n place ≡ Some value
    pub is_last : last_valid n.kind n.level place h ≡ Some w

  -- Frozen view: before the event t, which came after the last valid write and after a PE had seen the place, the place
  -- was in the same tree at the same node, held the same value, and had the same last valid write.
  pub record View (h : List Noted) (n : Node) (place value : ℕ) (newer before : List Noted) (t : Noted) : Type 0 where
    pub older : List Noted
    pub split : h ≡ newer ++ t ∷ older
    pub was : HeldBy older n place value (record { value = value; since = before })

  -- Limbo is empty: where the table was childless before t, it still is.
  abbrev pub StaysChildless : List Noted → Node → ℕ → List Noted → Type 0
  StaysChildless h n value older = is_childless heading trust older n value ≡ true
      → is_childless heading trust h n value ≡ true

  -- Leaves of the lower range: what a place of a tree of it holds isn't a leaf for every ASID.
  abbrev pub NoGlobalLeaf : List Noted → Type 0
  NoGlobalLeaf h = (n : Node) (place value : ℕ) → InTree h n → n.kind ≡ Ttbr0 → page_of place ≡ n.page
      → held_at heading trust h n place ≡ Some value → is_global (desc_of n.kind n.level value) ≡ false
