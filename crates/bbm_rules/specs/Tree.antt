-- The trees of translation tables: the pages of the declared roots, and all pages that they reach through held
-- tables. That held tables count, and not present ones alone, is the project's own choice.
-- Source: Arm ARM (DDI 0487), "VMSAv8-64 translation table walks".
-- Source: project's own choice, where no other is named.
use Rattle.std.specs.Option.{option_map_or}
use Rattle.std.specs.Prelude.{ℕ, zero, suc, ◌+◌, ◌*◌, ◌-◌, Bool, false, not, ◌==◌, List, [], ◌∷◌, ◌++◌, Option, Some}
use Rattle.std.specs.Prelude.{None, is_some, find, flat_map, filter_map, if◌then◌else◌}
use Rattle.bbm_regimes.specs.Extent.{Extent}
use Rattle.bbm_descriptor.specs.Descriptor.{is_valid}
use Rattle.bbm_rules.specs.Prelude.{Kind, Heading}
use Rattle.bbm_rules.specs.Claims.{Trust}
use Rattle.bbm_rules.specs.Held.{held}
use Rattle.bbm_rules.specs.Lists.{◌>>=◌, any}
pub use Rattle.bbm_rules.specs.Next.{next_in, next_of}
use Rattle.bbm_rules.specs.Notes.{Noted, events_of}
use Rattle.bbm_rules.specs.Places.{index_of}
use Rattle.bbm_rules.specs.Roots.{Declared, first_input_page, input_pages, root_pages, roots_of, start_of}
use Rattle.bbm_rules.specs.Values.{places_in, value_of}

-- a place above a page, and its level
pub record Above : Type 0 where
  pub place : ℕ
  pub level : ℕ

-- a page of a tree: its kind and level, the first page of its root, the input page number at which its region
-- begins, and the places above it, the nearest first
pub record Node : Type 0 where
  pub page : ℕ
  pub kind : Kind
  pub level : ℕ
  pub root : ℕ
  pub base : ℕ
  pub above : List Above

-- Region: the input pages that a place translates. In a page that begins at an input page, the place of index x has the
-- x-th part.
abbrev pub region_start : Node → ℕ → ℕ
region_start n place = n.base + index_of place * input_pages n.level

abbrev pub region_of : Node → ℕ → Extent
region_of n place = record { lo = region_start n place; hi = region_start n place + input_pages n.level - 1 }

-- the pages of a root, at its start level, each with the input page at which it begins: page j has the j-th part
abbrev pub nodes_of_pages : Kind → ℕ → ℕ → ℕ → List ℕ → List Node
nodes_of_pages kind level root base [] = []
nodes_of_pages kind level root base (page ∷ pages) =
    record { page = page; kind = kind; level = level; root = root; base = base; above = [] }
    ∷ nodes_of_pages kind level root (base + 512 * input_pages level) pages

abbrev pub nodes_of_root : Heading → Declared → List Node
nodes_of_root heading r = nodes_of_pages r.kind (start_of heading.world r.kind) r.page
    (first_input_page heading.world r.kind) (root_pages heading.world r.kind r.page)

abbrev pub starts_at : Heading → ℕ → Declared → List Node
starts_at heading level r = if start_of heading.world r.kind == level then nodes_of_root heading r else []

-- the page below a place, one level deeper; kind and root are the same
abbrev pub node_below : Node → ℕ → ℕ → Node
node_below n place next = record n {
  page = next;
  level = suc n.level;
  base = region_start n place;
  above = record { place = place; level = n.level } ∷ n.above;
}

-- Limbo: the present value of a place above is invalid.
abbrev pub in_limbo : List Noted → Node → Bool
in_limbo h n = any (λ a. not (is_valid n.kind a.level (value_of (events_of h) a.place))) n.above

module _ (heading : Heading) (trust : Trust) (h : List Noted) where
  -- what a place of a page of a tree holds
  abbrev pub held_at : Node → ℕ → Option ℕ
  held_at n place = held heading trust n.kind n.level place h

  -- Tree: the pages of a root are in its tree at its start level; where a place of a page of a tree holds a table, the
  -- next page is in that tree one level deeper. Level by level; at level 3 there are no tables.
  abbrev pub child_at : Node → ℕ → Option Node
  child_at n place = do
    value ← held_at n place
    next ← next_of n.kind n.level value
    Some (node_below n place next)

  abbrev pub children : Node → List Node
  children n = filter_map (child_at n) (places_in (events_of h) n.page)

  abbrev pub nodes_at : ℕ → List Node
  nodes_at zero = flat_map (starts_at heading 0) (roots_of (events_of h))
  nodes_at (suc level) =
      flat_map (starts_at heading (suc level)) (roots_of (events_of h)) ++ flat_map children (nodes_at level)

  unfoldable pub tree : List Node
  tree = nodes_at 0 ++ nodes_at 1 ++ nodes_at 2 ++ nodes_at 3

  -- The node of a page. In a history that keeps the rules a page has one at most: `law_one_node` says so. So each
  -- definition that speaks of a place of a tree goes by this one.
  abbrev pub node_of : ℕ → Option Node
  node_of page = find (λ n. n.page == page) tree

  abbrev pub in_tree : ℕ → Bool
  in_tree page = is_some (node_of page)

  -- Childless: no place of the next page of a held table holds anything.
  abbrev pub holds_some : Kind → ℕ → ℕ → Bool
  holds_some kind level place = is_some (held heading trust kind level place h)

  abbrev pub is_childless : Node → ℕ → Bool
  is_childless n value = option_map_or
      (λ next. not (any (holds_some n.kind (suc n.level)) (places_in (events_of h) next)))
      (next_of n.kind n.level value) false
