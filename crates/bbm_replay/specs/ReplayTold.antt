-- When a view is what the definitions say after a history. A history is newest first. Source: project's own choice.
use Rattle.std.specs.Prelude.{◌≡◌, ℕ, true, false, List, length, Some, None}
use Rattle.bbm_descriptor.specs.Descriptor.{core_of}
use Rattle.bbm_entry_state.specs.declared.pending.Pends.{Pends}
use Rattle.bbm_entry_state.specs.declared.state.EntryState.{EntryState}
use Rattle.bbm_events.specs.Heading.{heading_ok}
use Rattle.bbm_place_map.specs.Map.{is_tracked, marks_at, pends_at, value_at}
use Rattle.bbm_place_map.specs.States.{state_from}
use Rattle.bbm_place_map.specs.declared.map.PlaceMap.{PlaceMap}
use Rattle.bbm_rules.specs.Prelude.{Kind, Heading, Event}
use Rattle.bbm_rules.specs.Broken.{keeps}
use Rattle.bbm_rules.specs.Claims.Trust.{Patterns}
use Rattle.bbm_rules.specs.Pages.{initialised}
use Rattle.bbm_rules.specs.Places.{page_of}
use Rattle.bbm_rules.specs.Tree.{Node}
use Rattle.bbm_replay_entries.specs.EntryStands.{EntryStands}
use Rattle.bbm_tree_index.specs.Index.{fresh_in, known_in, node_in, null_in, pages_in}
use Rattle.bbm_tree_index.specs.declared.index.TreeIndex.{TreeIndex}
use Rattle.bbm_replay_trees.specs.Told.{AllFit, SameFresh, SameKnown, SameNodes, SameNull, SameValues, View}

-- what a map and an index say
abbrev pub view_of : PlaceMap → TreeIndex → View
view_of map index = record {
  value = value_at map;
  marks = marks_at map;
  pends = pends_at map;
  tracked = is_tracked map;
  node = node_in index;
  fresh = fresh_in index;
  null = null_in index;
  known = known_in index;
  pages = length (pages_in index);
}

module _ (v : View) where
  -- the state of a place that is read at this kind and level
  abbrev pub state_of : Kind → ℕ → ℕ → EntryState
  state_of kind level a = state_from (core_of kind level (v.value a)) (v.marks a)

  -- what waits at a place, by issuer
  abbrev pub waiting : ℕ → ℕ → Pends
  waiting a q = v.pends q a

-- The pages of trees, the fresh pages and the null pages are apart, and the first two are tracked.
pub record Apart (v : View) : Type 0 where
  pub fresh_outside : (p : ℕ) → v.fresh p ≡ true → v.node p ≡ None
  pub fresh_not_null : (p : ℕ) → v.fresh p ≡ true → v.null p ≡ false
  pub fresh_tracked : (p : ℕ) → v.fresh p ≡ true → v.tracked p ≡ true
  pub node_not_null : (p : ℕ) (n : Node) → v.node p ≡ Some n → v.null p ≡ false
  pub node_tracked : (p : ℕ) (n : Node) → v.node p ≡ Some n → v.tracked p ≡ true

pub record Told (heading : Heading) (h : List Event) (v : View) : Type 0 where
  -- the history keeps the rules over all patterns, and its events fit its header
  pub proper : heading_ok heading ≡ true
  pub kept : keeps heading Patterns h ≡ true
  pub fit : AllFit heading h
  -- values, trees and pages
  pub values : SameValues h v.value
  pub nodes : SameNodes heading h v.node
  pub fresh : SameFresh heading h v.fresh
  pub null : SameNull h v.null
  pub known : SameKnown h v.known
  pub pages : v.pages ≡ length (initialised h)
  pub tracked : (p : ℕ) → v.tracked p ≡ v.known p
  pub apart : Apart v
  -- each place of a tree; a place outside the trees isn't broken
  pub entries : (n : Node) (a : ℕ) → v.node (page_of a) ≡ Some n
      → EntryStands heading h n.kind n.level a (state_of v n.kind n.level a) (waiting v a)
  pub outside : (a : ℕ) → v.node (page_of a) ≡ None → v.marks a ≡ None
