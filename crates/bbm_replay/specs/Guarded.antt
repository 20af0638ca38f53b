-- What is kept of the pages that leaves of stage 2 map, under a header with `isolated`: what it stands for, and what
-- the calls say that judge by it. A history is newest first. Source: project's own choice.
use Rattle.std.specs.Prelude.{◌≡◌, ℕ, true, false, List, Option, Some, None, Result, Ok, Err, IfSome, is_some}
use Rattle.bbm_place_map.specs.Map.{value_at}
use Rattle.bbm_place_map.specs.declared.map.PlaceMap.{PlaceMap}
use Rattle.bbm_rules.specs.Mapped.{maps}
use Rattle.bbm_rules.specs.Prelude.{Kind, Heading, Event}
use Rattle.bbm_rules.specs.Tree.{Node}
use Rattle.bbm_rules.specs.declared.rule.Rule.TheVariants.{TableMapped}
use Rattle.bbm_rules.specs.declared.step_fault.StepFault.{StepFault}
use Rattle.bbm_rules.specs.declared.step_fault.StepFault.TheVariants.{Broken, NoMemory}
use Rattle.bbm_tree_index.specs.Attaching.{IsLeast, Never}
use Rattle.bbm_tree_index.specs.Index.{fresh_in, node_in}
use Rattle.bbm_tree_index.specs.Outputs.{BadTable, CoversAttached, CoversLeaf, HasListed, Lists}
use Rattle.bbm_tree_index.specs.Paths.{Attached}
use Rattle.bbm_tree_index.specs.declared.index.TreeIndex.{TreeIndex}
use Rattle.bbm_tree_index.specs.declared.standing.AttachedPage.{AttachedPage}
use Rattle.bbm_replay_trees.specs.Guarding.{Guards, Searches}
use Rattle.bbm_replay.specs.ReplayTold.{view_of}
use Rattle.bbm_unmapped.specs.Unmapped.{SharesPages, free_in, may_map, pages_in}
use Rattle.bbm_unmapped.specs.declared.unmapped.Unmapped.{Unmapped}

-- Nothing is kept without the word. What is kept with it stands for the history, and has the pages of the index.
abbrev pub Guarded : Option Unmapped → TreeIndex → Heading → List Event → Type 0
Guarded None index heading h = heading.words.isolated ≡ false
Guarded (Some unmapped) index heading h = (heading.words.isolated ≡ true) × SharesPages unmapped index
    × Guards heading h (free_in unmapped) (may_map unmapped)

-- what is kept, if anything, comes to this
abbrev pub Becomes : (Unmapped → Unmapped → Type 0) → Option Unmapped → Option Unmapped → Type 0
Becomes to None new = new ≡ None
Becomes to (Some old) new = (u : Unmapped) × (new ≡ Some u) × to old u

-- a page was initialised, of which the index and the map say this now
abbrev pub Initialises : TreeIndex → PlaceMap → ℕ → Unmapped → Unmapped → Type 0
Initialises index map page old new = SharesPages new index
    × Searches (view_of map index) page (free_in old) (free_in new) (may_map old)
    × ((table p : ℕ) → may_map new table p ≡ may_map old table p)

-- ---- a value at a place of a tree, read at a kind and a level

module _ (kind : Kind) (level place value : ℕ) where
  -- it is a leaf that maps the page of a tree
  abbrev pub IsOver : TreeIndex → ℕ → Type 0
  IsOver index page = (maps kind level value page ≡ true) × (is_some (node_in index page) ≡ true)

  -- what it maps counts as mapped then
  abbrev pub CoversValue : Unmapped → Unmapped → Type 0
  CoversValue old new = (pages_in new ≡ pages_in old)
      × CoversLeaf kind level place value (free_in old) (free_in new) (may_map old) (may_map new)

  -- The answer to the value: Ok where it maps no page of a tree, and what it maps counts as mapped then; else the least
  -- page of a tree that it maps.
  abbrev pub JudgesLeaf : TreeIndex → Option Unmapped → Option Unmapped → Result (Unit {0}) StepFault → Type 0
  JudgesLeaf index old new (Ok done) = IfSome old (λ u. Never (IsOver index)) × Becomes CoversValue old new
  JudgesLeaf index old new (Err (Broken TableMapped page)) =
      (is_some old ≡ true) × (new ≡ old) × IsLeast (IsOver index) page
  JudgesLeaf index old new (Err fault) = ⊥

-- ---- pages that are attached, from these nodes on

module _ (index : TreeIndex) (map : PlaceMap) (starts : List Node) where
  abbrev pub IsAttached : Node → Type 0
  IsAttached = Attached (fresh_in index) (value_at map) starts

  -- the page keeps them from being attached
  abbrev pub IsBad : Unmapped → ℕ → Type 0
  IsBad unmapped = BadTable IsAttached (value_at map) (free_in unmapped) (node_in index)

  -- they may be attached, and these are they
  abbrev pub Passes : Option Unmapped → List AttachedPage → Type 0
  Passes kept pages = IfSome kept (λ unmapped. Lists IsAttached pages × Never (IsBad unmapped))

  -- they may not, for the least page; or there is no memory
  abbrev pub Refuses : Option Unmapped → StepFault → Type 0
  Refuses (Some unmapped) (Broken TableMapped page) = IsLeast (IsBad unmapped) page
  Refuses (Some unmapped) NoMemory = Unit {0}
  Refuses kept fault = ⊥

-- the listed pages were attached: what their leaves map counts as mapped
abbrev pub CoversListed : PlaceMap → List AttachedPage → Unmapped → Unmapped → Type 0
CoversListed map pages old new = (pages_in new ≡ pages_in old)
    × CoversAttached (HasListed pages) (value_at map) (free_in old) (free_in new) (may_map old) (may_map new)
