-- What a checker keeps of the pages that leaves of stage 2 map, when it stands for a history, and what the rule on
-- table pages says by it. A history is newest first. Source: project's own choice.
use Rattle.std.specs.Prelude.{◌≡◌, ℕ, Bool, true, false, ◌||◌, ◌==◌, List, [], ◌∷◌, Option, Some, None, is_some}
use Rattle.bbm_histories.specs.TreeChanges.{Proper}
use Rattle.bbm_rules.specs.Attach.{attached_by}
use Rattle.bbm_rules.specs.Broken.{first_broken, keeps}
use Rattle.bbm_rules.specs.Claims.Trust.{Patterns}
use Rattle.bbm_rules.specs.Mapped.{is_clean, is_mapped, maps}
use Rattle.bbm_rules.specs.Pages.{is_fresh}
use Rattle.bbm_rules.specs.Places.{page_of}
use Rattle.bbm_rules.specs.Prelude.{Kind, Heading, Event, Init, Root, Write}
use Rattle.bbm_rules.specs.Rules.{table_mapped}
use Rattle.bbm_rules.specs.Tree.{Node, held_at, in_tree, next_of, node_below, node_of, nodes_of_root}
use Rattle.bbm_tree_index.specs.LeastPages.{LeastOf}
use Rattle.bbm_tree_index.specs.Outputs.{BadTable, CoversAttached, CoversLeaf, HeldOver}
use Rattle.bbm_tree_index.specs.Paths.{Attached}
use Rattle.bbm_replay_trees.specs.Told.{AllFit, SameCores, SameFresh, SameNodes, SameValues, View, core_at}
use Rattle.bbm_replay_trees.specs.Told.{notes}
use Rattle.bbm_replay_trees.specs.TreeEvents.{earlier_rules, may_map}

-- What is kept stands for a history: no free page is mapped; a fresh page, and one of a tree, is free exactly where it
-- is clean; and where a place of a tree holds a leaf that maps a page, that page is among those for which the place's
-- page is looked through.
pub record Guards (heading : Heading) (h : List Event) (free : ℕ → Bool) (may : ℕ → ℕ → Bool) : Type 0 where
  pub unmapped : (page : ℕ) → free page ≡ true → is_mapped heading Patterns (notes heading h) page ≡ false
  pub clean : (page : ℕ)
      → (is_fresh heading Patterns (notes heading h) page || in_tree heading Patterns (notes heading h) page) ≡ true
      → free page ≡ is_clean heading Patterns (notes heading h) page
  pub within : (n : Node) (place value page : ℕ) → node_of heading Patterns (notes heading h) (page_of place) ≡ Some n
      → held_at heading Patterns (notes heading h) n place ≡ Some value → maps n.kind n.level value page ≡ true
      → may (page_of place) page ≡ true

-- After an `init` the page is free where it was, and else exactly where no place of a tree holds a leaf that maps it;
-- other pages are free where they were.
pub record Searches (view : View) (page : ℕ) (free free' : ℕ → Bool) (may : ℕ → ℕ → Bool) : Type 0 where
  pub others : (p : ℕ) → (p == page) ≡ false → free' p ≡ free p
  pub kept : free page ≡ true → free' page ≡ true
  pub found : free page ≡ false → HeldOver view.node (core_at view) may page → free' page ≡ false
  pub missed : free page ≡ false → (HeldOver view.node (core_at view) may page → ⊥) → free' page ≡ true

-- What is kept after an event that breaks no rule, by what was kept before.
pub record GuardsAfter (heading : Heading) : Type 0 where
  pub start : Guards heading [] (λ page. false) (λ table page. false)
  pub others : (h : List Event) (e : Event) (free : ℕ → Bool) (may : ℕ → ℕ → Bool) → Proper heading
      → keeps heading Patterns (e ∷ h) ≡ true → may_map e ≡ false → Guards heading h free may
      → Guards heading (e ∷ h) free may
  pub outside : (h : List Event) (view : View) (pe place v : ℕ) (free : ℕ → Bool) (may : ℕ → ℕ → Bool) → Proper heading
      → keeps heading Patterns (Write pe place v ∷ h) ≡ true → SameNodes heading h view.node
      → view.node (page_of place) ≡ None → Guards heading h free may → Guards heading (Write pe place v ∷ h) free may
  pub write : (h : List Event) (view : View) (n : Node) (pe place v : ℕ) (free free' : ℕ → Bool)
      (may may' : ℕ → ℕ → Bool) → Proper heading → keeps heading Patterns (Write pe place v ∷ h) ≡ true
      → SameNodes heading h view.node → view.node (page_of place) ≡ Some n
      → attached_by heading Patterns (notes heading h) (Write pe place v) ≡ None
      → CoversLeaf n.kind n.level place v free free' may may' → Guards heading h free may
      → Guards heading (Write pe place v ∷ h) free' may'
  pub root : (h : List Event) (view : View) (pe page : ℕ) (kind : Kind) (lock : Option ℕ) (free free' : ℕ → Bool)
      (may may' : ℕ → ℕ → Bool) → Proper heading → AllFit heading h
      → keeps heading Patterns (Root pe kind lock page ∷ h) ≡ true → SameNodes heading h view.node
      → SameFresh heading h view.fresh → SameValues h view.value
      → CoversAttached (Attached view.fresh view.value
      (nodes_of_root heading (record { page = page; kind = kind; lock = None }))) view.value free free' may may'
      → Guards heading h free may → Guards heading (Root pe kind lock page ∷ h) free' may'
  pub attaching : (h : List Event) (view : View) (n : Node) (pe place v next : ℕ) (free free' : ℕ → Bool)
      (may may' : ℕ → ℕ → Bool) → Proper heading → AllFit heading h
      → keeps heading Patterns (Write pe place v ∷ h) ≡ true → SameNodes heading h view.node
      → SameFresh heading h view.fresh → SameValues h view.value → SameCores heading h (core_at view)
      → view.node (page_of place) ≡ Some n → core_at view n.kind n.level place ≡ None
      → next_of n.kind n.level v ≡ Some next
      → CoversAttached (Attached view.fresh view.value (node_below n place next ∷ [])) view.value free free' may may'
      → Guards heading h free may → Guards heading (Write pe place v ∷ h) free' may'
  pub init : (h : List Event) (view : View) (pe page : ℕ) (free free' : ℕ → Bool) (may : ℕ → ℕ → Bool)
      → Proper heading → AllFit heading h → keeps heading Patterns (Init pe page ∷ h) ≡ true
      → SameNodes heading (Init pe page ∷ h) view.node → SameCores heading (Init pe page ∷ h) (core_at view)
      → Searches view page free free' may → Guards heading h free may
      → Guards heading (Init pe page ∷ h) free' may

-- What the rule on table pages says of an event, where what is kept stands for the history: nothing without the word, with
-- which each page of a tree is free; of a write that attaches nothing, the least page of a tree that the written leaf maps;
-- and of an event that attaches pages and breaks no rule before this one, the least bad one.
pub record JudgesTables (heading : Heading) : Type 0 where
  pub off : (h : List Event) (e : Event) → heading.words.isolated ≡ false
      → table_mapped heading Patterns (notes heading h) e ≡ None
  pub tables : (h : List Event) (view : View) (page : ℕ) (free : ℕ → Bool) (may : ℕ → ℕ → Bool)
      → heading.words.isolated ≡ true → keeps heading Patterns h ≡ true → SameNodes heading h view.node
      → Guards heading h free may → is_some (view.node page) ≡ true → free page ≡ true
  pub outside : (h : List Event) (view : View) (pe place v : ℕ) → SameNodes heading h view.node
      → view.node (page_of place) ≡ None → table_mapped heading Patterns (notes heading h) (Write pe place v) ≡ None
  pub write : (h : List Event) (view : View) (n : Node) (pe place v : ℕ) (o : Option ℕ) → heading.words.isolated ≡ true
      → SameNodes heading h view.node → view.node (page_of place) ≡ Some n
      → attached_by heading Patterns (notes heading h) (Write pe place v) ≡ None
      → LeastOf (λ page. (maps n.kind n.level v page ≡ true) × (is_some (view.node page) ≡ true)) o
      → table_mapped heading Patterns (notes heading h) (Write pe place v) ≡ o
  pub root : (h : List Event) (view : View) (pe page : ℕ) (kind : Kind) (lock : Option ℕ) (free : ℕ → Bool)
      (may : ℕ → ℕ → Bool) (o : Option ℕ) → heading.words.isolated ≡ true → Proper heading → AllFit heading h
      → keeps heading Patterns h ≡ true
      → first_broken heading Patterns (notes heading h) (Root pe kind lock page)
      (earlier_rules (Root pe kind lock page)) ≡ None → SameNodes heading h view.node
      → SameFresh heading h view.fresh → SameValues h view.value → Guards heading h free may
      → LeastOf (BadTable (Attached view.fresh view.value
      (nodes_of_root heading (record { page = page; kind = kind; lock = None }))) view.value free view.node) o
      → table_mapped heading Patterns (notes heading h) (Root pe kind lock page) ≡ o
  pub attaching : (h : List Event) (view : View) (n : Node) (pe place v next : ℕ) (free : ℕ → Bool)
      (may : ℕ → ℕ → Bool) (o : Option ℕ) → heading.words.isolated ≡ true → Proper heading → AllFit heading h
      → keeps heading Patterns h ≡ true
      → first_broken heading Patterns (notes heading h) (Write pe place v) (earlier_rules (Write pe place v)) ≡ None
      → SameNodes heading h view.node → SameFresh heading h view.fresh → SameValues h view.value
      → SameCores heading h (core_at view) → view.node (page_of place) ≡ Some n
      → core_at view n.kind n.level place ≡ None → next_of n.kind n.level v ≡ Some next → Guards heading h free may
      → LeastOf (BadTable (Attached view.fresh view.value (node_below n place next ∷ [])) view.value free view.node) o
      → table_mapped heading Patterns (notes heading h) (Write pe place v) ≡ o
