-- What the laws of nodes and trees over a history state. A history is newest first. Source: project's own choice.
use Rattle.std.specs.Prelude.{◌≡◌, ◌↔◌, ℕ, suc, ◌<◌, ◌⊎◌, true, false, not, List, ◌∷◌, ◌++◌, Some, None, Contains}
use Rattle.bbm_rules.specs.Prelude.{Barrier, Dsb, Event, Heading, Init, Unroot}
use Rattle.bbm_rules.specs.Attach.{attached_by}
use Rattle.bbm_rules.specs.Broken.{keeps}
use Rattle.bbm_rules.specs.Claims.{Trust}
use Rattle.bbm_rules.specs.Covers.{noted}
use Rattle.bbm_rules.specs.Notes.{Noted}
use Rattle.bbm_rules.specs.Pages.{is_fresh, is_null, may_be_fresh}
use Rattle.bbm_rules.specs.Tree.{Node, in_tree, is_childless, next_of, node_of, tree}
use Rattle.bbm_histories.specs.TreeChanges.{Attaches, InTreeAfter, InTreeAfterDsb, Proper}
use Rattle.bbm_histories.specs.TreeSteps.{EndsAll, HoldsNone, childless_after, holds_above, is_under, node_where}
use Rattle.bbm_histories.specs.ValueChanges.{NoInit}

-- In a history that keeps the rules, a page has at most one node in the trees: so it has one root, one kind, one level,
-- one region and one place above it. The node that the definitions take for a page, the first, is that one.
pub record SingleNode (heading : Heading) (trust : Trust) : Type 0 where
  pub at_most_one : (h : List Event) → keeps heading trust h ≡ true → (n m : Node)
      → Contains (tree heading trust (noted heading trust h)) n
      → Contains (tree heading trust (noted heading trust h)) m → n.page ≡ m.page → n ≡ m
  pub the_first : (h : List Event) → keeps heading trust h ≡ true → (n : Node)
      → Contains (tree heading trust (noted heading trust h)) n
      → node_of heading trust (noted heading trust h) n.page ≡ Some n

-- The tree after an event that breaks no rule is that before it, with what the event attaches, or without what it takes
-- out.
pub record TreeAfter (heading : Heading) (trust : Trust) : Type 0 where
  pub step : (h : List Event) (e : Event) → Proper heading → keeps heading trust (e ∷ h) ≡ true
      → ((q : ℕ) (dsb : Barrier) → e ≡ Dsb q dsb → ⊥) → (n : Node)
      → Contains (tree heading trust (noted heading trust (e ∷ h))) n
      ↔ InTreeAfter heading trust (noted heading trust h) e n
  pub dsb : (h : List Event) (q : ℕ) (dsb : Barrier) → keeps heading trust (Dsb q dsb ∷ h) ≡ true → (n : Node)
      → Contains (tree heading trust (noted heading trust (Dsb q dsb ∷ h))) n
      ↔ InTreeAfterDsb heading trust (noted heading trust h) (Dsb q dsb) n

-- In a history that keeps the rules, a page that comes into a tree is attached by the event and was fresh just before;
-- one of a tree keeps its node until it is in no tree, after a DSB or an `unroot` of its root; it isn't fresh then,
-- until its next `init`; and no `init` names a page of a tree.
pub record OnePosition (heading : Heading) (trust : Trust) : Type 0 where
  pub gained : (h : List Event) (e : Event) → keeps heading trust (e ∷ h) ≡ true → (n : Node)
      → Contains (tree heading trust (noted heading trust (e ∷ h))) n
      → Contains (tree heading trust (noted heading trust h)) n
      ⊎ (Attaches heading trust (noted heading trust h) e n
      × (is_fresh heading trust (noted heading trust h) n.page ≡ true))
  pub kept : (h : List Event) (e : Event) → Proper heading → keeps heading trust (e ∷ h) ≡ true → (n : Node)
      → Contains (tree heading trust (noted heading trust h)) n
      → Contains (tree heading trust (noted heading trust (e ∷ h))) n
      ⊎ ((in_tree heading trust (noted heading trust (e ∷ h)) n.page ≡ false)
      × (((q : ℕ) × (dsb : Barrier) × (e ≡ Dsb q dsb)) ⊎ ((q : ℕ) × (e ≡ Unroot q n.root))))
  pub unfresh : (newer h : List Event) (page : ℕ) → in_tree heading trust (noted heading trust h) page ≡ true
      → NoInit page newer → is_fresh heading trust (noted heading trust (newer ++ h)) page ≡ false
  pub no_init : (h : List Event) (q page : ℕ) → keeps heading trust (Init q page ∷ h) ≡ true
      → (in_tree heading trust (noted heading trust h) page ≡ false) × (is_null h page ≡ false)

-- The node of a page after an event that breaks no rule, by its node before it: a node that the event attaches is that
-- of its page; an `unroot` leaves the nodes of other roots; a DSB leaves those of which each place above still holds
-- something; and a page where no node is attached or taken out keeps what it had. An event of which the rules say that
-- it attaches no page attaches no node.
pub record NodeAfter (heading : Heading) (trust : Trust) : Type 0 where
  pub attached : (h : List Event) (e : Event) → Proper heading → keeps heading trust (e ∷ h) ≡ true → (m : Node)
      → Attaches heading trust (noted heading trust h) e m → node_of heading trust (noted heading trust (e ∷ h)) m.page
      ≡ Some m
  pub others : (h : List Event) (e : Event) → Proper heading → keeps heading trust (e ∷ h) ≡ true
      → ((q : ℕ) (dsb : Barrier) → e ≡ Dsb q dsb → ⊥) → ((q first : ℕ) → e ≡ Unroot q first → ⊥) → (page : ℕ)
      → ((m : Node) → Attaches heading trust (noted heading trust h) e m → m.page ≡ page → ⊥)
      → node_of heading trust (noted heading trust (e ∷ h)) page ≡ node_of heading trust (noted heading trust h) page
  pub unroot : (h : List Event) (q first : ℕ) → Proper heading → keeps heading trust (Unroot q first ∷ h) ≡ true
      → (page : ℕ) → node_of heading trust (noted heading trust (Unroot q first ∷ h)) page
      ≡ node_where (λ m. not (is_under first m)) (node_of heading trust (noted heading trust h) page)
  pub dsb : (h : List Event) (q : ℕ) (dsb : Barrier) → keeps heading trust (Dsb q dsb ∷ h) ≡ true → (page : ℕ)
      → node_of heading trust (noted heading trust (Dsb q dsb ∷ h)) page
      ≡ node_where (holds_above heading trust (noted heading trust (Dsb q dsb ∷ h)))
      (node_of heading trust (noted heading trust h) page)
  pub unattached : (h : List Noted) (e : Event) → attached_by heading trust h e ≡ None → (m : Node)
      → Attaches heading trust h e m → ⊥

-- Which pages are fresh after an event that breaks no rule: a page in which it attaches a node isn't; of any other page
-- an init makes it so, a `null` ends it, and other events leave it.
pub record FreshByEvent (heading : Heading) (trust : Trust) : Type 0 where
  pub attached : (h : List Event) (e : Event) → Proper heading → keeps heading trust (e ∷ h) ≡ true → (m : Node)
      → Attaches heading trust (noted heading trust h) e m → is_fresh heading trust (noted heading trust (e ∷ h)) m.page
      ≡ false
  pub others : (h : List Event) (e : Event) → keeps heading trust (e ∷ h) ≡ true → (page : ℕ)
      → ((m : Node) → Attaches heading trust (noted heading trust h) e m → m.page ≡ page → ⊥)
      → is_fresh heading trust (noted heading trust (e ∷ h)) page
      ≡ may_be_fresh e page (is_fresh heading trust (noted heading trust h) page)

-- A table is childless exactly where no place of its next page holds anything, also of those that were never written;
-- and what is no table isn't childless. After an event it is childless by whether it was before: a valid write in its
-- next page ends it, an init of that page makes it so, and any other event but a DSB leaves it. After a DSB it is
-- childless exactly where each place of the page that held something holds nothing any more.
pub record ChildlessAfter (heading : Heading) (trust : Trust) : Type 0 where
  pub table : (h : List Noted) (m : Node) (value next : ℕ) → next_of m.kind m.level value ≡ Some next
      → (is_childless heading trust h m value ≡ true) ↔ HoldsNone heading trust m.kind (suc m.level) next h
  pub no_table : (h : List Noted) (m : Node) (value : ℕ) → next_of m.kind m.level value ≡ None
      → is_childless heading trust h m value ≡ false
  pub step : (n : Noted) (h : List Noted) (m : Node) (value next : ℕ) → 0 < heading.pes
      → ((q : ℕ) (dsb : Barrier) → n.event ≡ Dsb q dsb → ⊥) → next_of m.kind m.level value ≡ Some next
      → is_childless heading trust (n ∷ h) m value
      ≡ childless_after m.kind (suc m.level) next n.event (is_childless heading trust h m value)
  pub dsb : (n : Noted) (h : List Noted) (m : Node) (value next q : ℕ) (dsb : Barrier) → n.event ≡ Dsb q dsb
      → next_of m.kind m.level value ≡ Some next → (is_childless heading trust (n ∷ h) m value ≡ true)
      ↔ EndsAll heading trust m.kind (suc m.level) next n h
