-- What the calls of the index change: in the index, and in the map that its places lie in. Each relation says what
-- changes, and that all else stays. Source: project's own choice.
use Rattle.std.specs.Prelude.{◌≡◌, ◌↔◌, ◌⊎◌, ℕ, Bool, true, false, not, ◌&&◌, ◌||◌, ◌==◌, if◌then◌else◌}
use Rattle.std.specs.Prelude.{[], ◌∷◌, ◌++◌, Some, None, is_none, nat_eq}
use Rattle.bbm_entry_state.specs.EntryStanding.{IsIdle}
use Rattle.bbm_events.specs.Heading.{Heading}
use Rattle.bbm_place_map.specs.Map.{is_tracked, marks_at, pages_of, pends_at, value_at}
use Rattle.bbm_place_map.specs.declared.map.PlaceMap.{PlaceMap}
use Rattle.bbm_rules.specs.Places.{page_of}
use Rattle.bbm_rules.specs.Tree.{Node}
use Rattle.bbm_tree_index.specs.HeldCores.{kept, leaves}
use Rattle.bbm_tree_index.specs.Index.{SameTracked, fresh_in, heading_of, known_in, node_in, null_in, pages_in}
use Rattle.bbm_tree_index.specs.Paths.{Attached, starts_of}
use Rattle.bbm_tree_index.specs.declared.index.TreeIndex.{TreeIndex}
use Rattle.bbm_tree_index.specs.declared.role.Attach.{Attach}

-- the index under this header before any call: no page was ever tracked
pub record IsNew (header : Heading) (index : TreeIndex) : Type 0 where
  pub node : (p : ℕ) → node_in index p ≡ None
  pub fresh : (p : ℕ) → fresh_in index p ≡ false
  pub null : (p : ℕ) → null_in index p ≡ false
  pub known : (p : ℕ) → known_in index p ≡ false
  pub pages : pages_in index ≡ []
  pub heading : heading_of index ≡ header

-- ---- what one page becomes

module _ (page : ℕ) where
  -- the page is fresh then; the trees, the null pages and what other pages are stay
  pub record BecomesFresh (old new : TreeIndex) : Type 0 where
    pub node : (p : ℕ) → node_in new p ≡ node_in old p
    pub fresh : (p : ℕ) → fresh_in new p ≡ (p == page || fresh_in old p)
    pub null : (p : ℕ) → null_in new p ≡ null_in old p

  -- the page is a null page then, and not fresh; the trees and what other pages are stay
  pub record BecomesNull (old new : TreeIndex) : Type 0 where
    pub node : (p : ℕ) → node_in new p ≡ node_in old p
    pub fresh : (p : ℕ) → fresh_in new p ≡ (fresh_in old p && not (p == page))
    pub null : (p : ℕ) → null_in new p ≡ (p == page || null_in old p)

  -- The page counts as tracked, under the same header, and has the next number where it had none. Whether another page
  -- was ever tracked stays.
  pub record CountsTracked (old new : TreeIndex) : Type 0 where
    pub known : (p : ℕ) → known_in new p ≡ (p == page || known_in old p)
    pub pages : pages_in new ≡ (if known_in old page then pages_in old else pages_in old ++ page ∷ [])
    pub heading : heading_of new ≡ heading_of old

  -- The map tracks the page, with values 0 and no broken place; what it says of the places of other pages stays.
  pub record BecomesZero (old new : PlaceMap) : Type 0 where
    pub values : (a : ℕ) → value_at new a ≡ (if page_of a == page then 0 else value_at old a)
    pub marks : (a : ℕ) → marks_at new a ≡ (if page_of a == page then None else marks_at old a)
    pub pends : (q a : ℕ) → nat_eq (page_of a) page ≡ false → pends_at new q a ≡ pends_at old q a
    pub pages : (p : ℕ) → is_tracked new p ≡ (nat_eq p page || is_tracked old p)

-- ---- pages that leave

-- No place of the pages that are gone is broken, and nothing waits there. The other marks and what waits at other
-- places stay, and so do the values and which pages are tracked.
pub record Releases (gone : ℕ → Bool) (old new : PlaceMap) : Type 0 where
  pub values : (a : ℕ) → value_at new a ≡ value_at old a
  pub marks : (a : ℕ) → marks_at new a ≡ (if gone (page_of a) then None else marks_at old a)
  pub pends : (q a : ℕ) → gone (page_of a) ≡ false → pends_at new q a ≡ pends_at old q a
  pub dropped : (q a : ℕ) → gone (page_of a) ≡ true → IsIdle (pends_at new q a)
  pub pages : pages_of new ≡ pages_of old

module _ (keeps : Node → Bool) where
  -- the nodes that the test keeps stay in the trees, and no others; fresh pages and null pages stay
  pub record KeepsOnly (old new : TreeIndex) : Type 0 where
    pub node : (p : ℕ) → node_in new p ≡ kept keeps (node_in old p)
    pub fresh : (p : ℕ) → fresh_in new p ≡ fresh_in old p
    pub null : (p : ℕ) → null_in new p ≡ null_in old p

  -- the page is in a tree, and its node isn't kept
  abbrev pub page_leaves : TreeIndex → ℕ → Bool
  page_leaves index page = leaves keeps (node_in index page)

  -- The nodes that the test doesn't keep leave the trees, and the map releases their pages.
  pub record TakesOut (old new : TreeIndex) (before after : PlaceMap) : Type 0 where
    pub trees : KeepsOnly old new
    pub tracked : SameTracked old new
    pub map : Releases (page_leaves old) before after

-- ---- pages that come into the trees

-- By these values the nodes that paths reach through fresh pages from the starts of what is attached come into the
-- trees, and are fresh no more. The other nodes stay, and so do the null pages.
pub record Attaches (value : ℕ → ℕ) (at : Attach) (old new : TreeIndex) : Type 0 where
  pub node : (p : ℕ) (m : Node) → (node_in new p ≡ Some m) ↔ ((node_in old p ≡ Some m)
      ⊎ ((m.page ≡ p) × Attached (fresh_in old) value (starts_of old at) m))
  pub fresh : (p : ℕ) → fresh_in new p ≡ (fresh_in old p && is_none (node_in new p))
  pub null : (p : ℕ) → null_in new p ≡ null_in old p
