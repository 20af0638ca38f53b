-- What a checker without a history stands for. A history is newest first. Source: project's own choice.
use Rattle.std.specs.Prelude.{◌≡◌, ℕ, ◌≤◌, true, false, ◌&&◌, List, ◌∷◌, length, Option, Some, None, is_some, Result}
use Rattle.std.specs.Prelude.{Ok, Err, OnErr, OnOk}
use Rattle.std.specs.Option.{option_map_or}
use Rattle.bbm_entry_state.specs.Points.{core_in}
use Rattle.bbm_entry_state.specs.declared.marks.Marks.{Marks}
use Rattle.bbm_place_map.specs.Map.{marks_at, value_at}
use Rattle.bbm_place_map.specs.declared.map.PlaceMap.{PlaceMap}
use Rattle.bbm_tree_index.specs.HeldCores.{limbo_by, next_in}
use Rattle.bbm_tree_index.specs.Index.{SameTracked, heading_of, node_in}
use Rattle.bbm_tree_index.specs.IndexAgreement.{SharesNumbers}
use Rattle.bbm_tree_index.specs.IndexChanges.{Attaches}
use Rattle.bbm_tree_index.specs.declared.index.TreeIndex.{TreeIndex}
use Rattle.bbm_roots.specs.RootsStand as roots
use Rattle.bbm_events.specs.Fits.{fits_heading}
use Rattle.bbm_rules.specs.Answers.{Answers, rewrites, takes_no_memory}
use Rattle.bbm_rules.specs.Broken.{broken}
use Rattle.bbm_rules.specs.Claims.Trust.{Patterns}
use Rattle.bbm_descriptor.specs.Descriptor.{core_of, differ}
use Rattle.bbm_descriptor.specs.declared.desc.Core.{Core}
use Rattle.bbm_rules.specs.Limits.{limit_of}
use Rattle.bbm_rules.specs.Places.{page_of}
use Rattle.bbm_rules.specs.Rules.{no_lock}
use Rattle.bbm_rules.specs.Tree.{Node}
use Rattle.bbm_tree_index.specs.Nodes.{path_at}
use Rattle.bbm_tree_index.specs.declared.role.Attach.TheVariants.{Below}
use Rattle.bbm_tree_index.specs.declared.role.Path.{Path}
use Rattle.bbm_replay_trees.specs.Told.{notes}
use Rattle.bbm_rules.specs.Prelude.{Heading, Event, Write}
use Rattle.bbm_rules.specs.declared.step_fault.StepFault.{StepFault}
use Rattle.bbm_rules.specs.declared.step_fault.StepFault.TheVariants.{NoMemory}
use Rattle.bbm_replay.specs.Guarded.{Guarded}
use Rattle.bbm_replay.specs.Leaves.{attached_next}
use Rattle.bbm_replay.specs.ReplayTold.{Told, state_of, view_of}
use Rattle.bbm_replay.specs.declared.parts.ReplayState.{ReplayState}
use Rattle.bbm_replay.specs.declared.replay.Replay.{Replay}

-- The parts stand for a history that keeps the rules over all patterns of events.
pub record PartsStand (parts : ReplayState) (heading : Heading) (h : List Event) : Type 0 where
  pub header : parts.header ≡ heading
  pub index_header : heading_of parts.index ≡ heading
  pub numbers : SharesNumbers parts.index parts.map
  pub told : Told heading h (view_of parts.map parts.index)
  pub roots : roots.Stands parts.roots heading h
  pub guarded : Guarded parts.unmapped parts.index heading h

-- they stand for a history of the event's header
abbrev pub MayMeet : ReplayState → Event → Type 0
MayMeet parts e = (heading : Heading) × (h : List Event) × PartsStand parts heading h × (fits_heading heading e ≡ true)

-- want of memory comes only of an event that may take memory
abbrev pub IsFrugal : ReplayState → Event → Result (Unit {0}) StepFault → Type 0
IsFrugal parts e (Err NoMemory) = (heading : Heading) (h : List Event) → PartsStand parts heading h
    → (takes_no_memory e ≡ false) × (rewrites heading h e ≡ false)
IsFrugal parts e _ = Unit {0}

-- The answer to an event, and what the parts stand for then: for the history with the event after Ok, and else for what
-- they stood for.
pub record Meets (old new : ReplayState) (e : Event) (result : Result (Unit {0}) StepFault) : Type 0 where
  pub judged : (heading : Heading) (h : List Event) → PartsStand old heading h
      → Answers result (broken heading Patterns h e) (limit_of h e)
  pub taken : OnOk result ((heading : Heading) (h : List Event) → PartsStand old heading h
      → PartsStand new heading (e ∷ h))
  pub unchanged : OnErr result ((heading : Heading) (h : List Event) → PartsStand old heading h
      → PartsStand new heading h)
  pub frugal : IsFrugal old e result

-- the checker stands for a history, as its parts do and with as many events as it counted
pub record StandsFor (replay : Replay) (heading : Heading) (h : List Event) : Type 0 where
  pub parts : PartsStand replay.parts heading h
  pub counted : replay.events ≡ length h

-- what no event changes: the header, also that of the index, and that map and index number pages alike
pub record SameFrame (old new : ReplayState) : Type 0 where
  pub header : new.header ≡ old.header
  pub index_header : heading_of new.index ≡ heading_of old.index
  pub numbers : SharesNumbers old.index old.map → SharesNumbers new.index new.map

-- no place is broken over a table
abbrev pub OverLeaves : PlaceMap → Type 0
OverLeaves map = (a : ℕ) (marks : Marks) → marks_at map a ≡ Some marks → next_in (Some marks.core) ≡ None

-- the place is one of a tree, at this path
abbrev pub IsAt : ReplayState → ℕ → Path → Type 0
IsAt parts place path = (n : Node) × (node_in parts.index (page_of place) ≡ Some n) × (path ≡ path_at n place)

-- the core of the state of a place of a tree
abbrev pub Holds : ReplayState → ℕ → Path → Option Core → Type 0
Holds parts place path held = held ≡ core_in (state_of (view_of parts.map parts.index) path.kind path.level place)

-- the rule on locks is kept
abbrev pub IsUnlocked : ReplayState → Event → Type 0
IsUnlocked parts e = (heading : Heading) (h : List Event) → PartsStand parts heading h
    → no_lock heading Patterns (notes heading h) e ≡ None

-- A write at a place of a tree, at this path: the parts stand for a history of its header.
pub record WritesTree (parts : ReplayState) (pe place value : ℕ) (path : Path) : Type 0 where
  pub may : MayMeet parts (Write pe place value)
  pub at : IsAt parts place path
  pub low : path.level ≤ 3

-- Such a write, under its lock: the first core is what the place holds, and the second that of the value.
pub record MayAdmit (parts : ReplayState) (pe place value : ℕ) (path : Path) (held new : Option Core) : Type 0 where
  pub tree : WritesTree parts pe place value path
  pub unlocked : IsUnlocked parts (Write pe place value)
  pub holds : Holds parts place path held
  pub core_is : new ≡ core_of path.kind path.level value

-- Such a write that attaches this page, and breaks none of the rules before those on what is attached.
pub record MayAttach (parts : ReplayState) (pe place value next : ℕ) : Type 0 where
  pub path : Path
  pub held : Option Core
  pub new : Option Core
  pub may : MayAdmit parts pe place value path held new
  pub links : attached_next held new ≡ Some next
  pub alike : differ held new ≡ false
  pub above : (is_some new && option_map_or (limbo_by (value_at parts.map)) (node_in parts.index (page_of place)) false)
      ≡ false

-- a write at the place attached this page, if any, and what hangs below it
abbrev pub Links : PlaceMap → ℕ → Option ℕ → TreeIndex → TreeIndex → Type 0
Links map place None old new = new ≡ old
Links map place (Some next) old new = Attaches (value_at map) (Below place next) old new × SameTracked old new

-- The write keeps the rules. The trees are those after it, where it attaches this page, if any, and so is what is kept
-- of the pages that leaves map. Nothing else changed.
pub record Admitted (old new : ReplayState) (pe place value : ℕ) (next : Option ℕ) : Type 0 where
  pub kept : (heading : Heading) (h : List Event) → PartsStand old heading h
      → broken heading Patterns h (Write pe place value) ≡ None
  pub frame : SameFrame old new
  pub same_map : new.map ≡ old.map
  pub same_roots : new.roots ≡ old.roots
  pub links : Links old.map place next old.index new.index
  pub guarded : (heading : Heading) (h : List Event) → PartsStand old heading h
      → Guarded new.unmapped new.index heading (Write pe place value ∷ h)

-- The judgement of a write: it is admitted, or this is the answer.
abbrev pub Admits : ReplayState → ReplayState → ℕ → ℕ → ℕ → Option ℕ → Result (Unit {0}) StepFault → Type 0
Admits old new pe place value next (Ok done) = Admitted old new pe place value next
Admits old new pe place value next (Err fault) = Meets old new (Write pe place value) (Err fault)
