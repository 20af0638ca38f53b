-- What a judge of attached pages finds is what the rules say of the event. Source: project's own choice.
use Rattle.std.specs.Prelude.{◌≡◌, ℕ, ◌<◌, ◌⊎◌, Bool, true, false, not, ◌||◌, List, [], ◌∷◌, Option, Some, None}
use Rattle.std.specs.Prelude.{is_some}
use Rattle.bbm_descriptor.specs.Descriptor.{desc_of}
use Rattle.bbm_histories.specs.TreeChanges.{Proper}
use Rattle.bbm_rules.specs.Attach.{attached_by}
use Rattle.bbm_rules.specs.Claims.Trust.{Patterns}
use Rattle.bbm_rules.specs.Lists.{if_so}
use Rattle.bbm_rules.specs.Places.{page_of}
use Rattle.bbm_rules.specs.Prelude.{Kind, Heading, Event, Root, Write}
use Rattle.bbm_rules.specs.Rules.{bad_kind, global_user, not_fresh}
use Rattle.bbm_rules.specs.Tree.{Node, next_of, node_below, nodes_of_root}
use Rattle.bbm_tree_index.specs.Attaching.{HasPlace, IsUnfresh, is_bad, is_user_global}
use Rattle.bbm_replay_trees.specs.Told.{AllFit, SameCores, SameFresh, SameNodes, SameNull, SameValues, View, core_at}
use Rattle.bbm_replay_trees.specs.Told.{notes}
use Rattle.bbm_tree_index.specs.LeastPages.{LeastOf}

-- The least page that a judge of these starts finds, or none, is what the rule on fresh pages reports; and the least
-- places that it finds, or none, are what the two rules on leaves report.
pub record Judging (fresh : ℕ → Bool) (value : ℕ → ℕ) (starts : List Node) (heading : Heading) (h : List Event)
    (named : Bool) (e : Event) : Type 0 where
  pub pages : (o : Option ℕ) → LeastOf (IsUnfresh fresh value starts named) o
      → not_fresh heading Patterns (notes heading h) e ≡ o
  pub contiguous : (o : Option ℕ) → LeastOf (HasPlace fresh value starts is_bad) o
      → bad_kind heading Patterns (notes heading h) e ≡ o
  pub global : (o : Option ℕ) → LeastOf (HasPlace fresh value starts is_user_global) o
      → global_user heading Patterns (notes heading h) e ≡ o

-- What a judge of the paths from the pages of a root, or from the page below the place of a write that attaches, finds
-- by fresh pages and present values is what the rules on fresh pages, on leaves with the Contiguous hint and on leaves
-- for every ASID say of the event. A table stands above level 3.
pub record JudgesAttached (heading : Heading) : Type 0 where
  pub root : (h : List Event) (view : View) (pe page : ℕ) (kind : Kind) (lock : Option ℕ) → Proper heading
      → AllFit heading h → SameFresh heading h view.fresh → SameValues h view.value
      → Judging view.fresh view.value (nodes_of_root heading (record { page = page; kind = kind; lock = None })) heading
      h true (Root pe kind lock page)
  pub write : (h : List Event) (view : View) (n : Node) (pe place v next : ℕ) → AllFit heading h
      → SameNodes heading h view.node → SameFresh heading h view.fresh → SameValues h view.value
      → SameCores heading h (core_at view) → view.node (page_of place) ≡ Some n
      → core_at view n.kind n.level place ≡ None → next_of n.kind n.level v ≡ Some next
      → Judging view.fresh view.value (node_below n place next ∷ []) heading h false (Write pe place v)
  pub level : (kind : Kind) (level v next : ℕ) → next_of kind level v ≡ Some next → level < 3

-- What these rules say of a write that attaches nothing: at a place of a tree that holds something or is given no
-- table, by the written descriptor alone; at a place outside the trees, by its page alone.
pub record Unattached (heading : Heading) : Type 0 where
  pub attaches_none : (h : List Event) (view : View) (n : Node) (pe place v : ℕ) → SameNodes heading h view.node
      → SameCores heading h (core_at view) → view.node (page_of place) ≡ Some n
      → (is_some (core_at view n.kind n.level place) ≡ true) ⊎ (next_of n.kind n.level v ≡ None)
      → attached_by heading Patterns (notes heading h) (Write pe place v) ≡ None
  pub inside : (h : List Event) (view : View) (n : Node) (pe place v : ℕ) → SameNodes heading h view.node
      → view.node (page_of place) ≡ Some n → attached_by heading Patterns (notes heading h) (Write pe place v) ≡ None
      → (not_fresh heading Patterns (notes heading h) (Write pe place v) ≡ None)
      × (bad_kind heading Patterns (notes heading h) (Write pe place v)
      ≡ if_so (is_bad n.kind (desc_of n.kind n.level v)) place)
      × (global_user heading Patterns (notes heading h) (Write pe place v)
      ≡ if_so (is_user_global n.kind (desc_of n.kind n.level v)) place)
  pub outside : (h : List Event) (view : View) (pe place v : ℕ) → SameNodes heading h view.node
      → SameFresh heading h view.fresh → SameNull h view.null → view.node (page_of place) ≡ None
      → (attached_by heading Patterns (notes heading h) (Write pe place v) ≡ None)
      × (not_fresh heading Patterns (notes heading h) (Write pe place v)
      ≡ if_so (not (view.fresh (page_of place) || view.null (page_of place))) (page_of place))
      × (bad_kind heading Patterns (notes heading h) (Write pe place v) ≡ None)
      × (global_user heading Patterns (notes heading h) (Write pe place v) ≡ None)
