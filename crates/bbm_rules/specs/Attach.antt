-- Which pages an event attaches to a tree. Source: project's own choice.
use Rattle.std.specs.Prelude.{ℕ, zero, suc, ◌-◌, List, [], ◌∷◌, ◌++◌, Option, Some, None, flat_map, filter_map, is_none}
use Rattle.std.specs.Prelude.{if◌then◌else◌, map}
use Rattle.bbm_rules.specs.Prelude.{Kind, Heading, Event, Root, Write}
use Rattle.bbm_rules.specs.Claims.{Trust}
use Rattle.bbm_rules.specs.Lists.{◌>>=◌}
use Rattle.bbm_rules.specs.Notes.{Noted, events_of}
use Rattle.bbm_rules.specs.Pages.{is_fresh}
use Rattle.bbm_rules.specs.Places.{page_of}
use Rattle.bbm_rules.specs.Roots.{root_pages, start_of}
use Rattle.bbm_rules.specs.Tree.{held_at, next_of, node_of}
use Rattle.bbm_rules.specs.Values.{places_in, value_of}

-- the end of a path: a page and the level at which it is read
pub record End : Type 0 where
  pub page : ℕ
  pub level : ℕ

abbrev pub end_at : ℕ → ℕ → End
end_at level page = record { page = page; level = level }

abbrev pub pages_of : List End → List ℕ
pages_of ends = map (λ end. end.page) ends

-- The pages that an event attaches, each as often as paths end in it. `first` are the named pages, at which the paths
-- of no places end; `deeper` are the ends of all longer paths.
pub record Attached : Type 0 where
  pub kind : Kind
  pub first : List End
  pub deeper : List End

abbrev pub all_ends : Attached → List End
all_ends a = a.first ++ a.deeper

module _ (heading : Heading) (trust : Trust) (h : List Noted) where
  -- Paths: a path begins in a page that is named, and goes on through the table values of the places of fresh pages,
  -- level by level. This is the list of the ends of all paths of at least one place that begin in the page at the
  -- level, one for each path: where the page is fresh, from each of its places the next page, and the ends of the
  -- paths that go on from there. The number is that of the levels below.
  abbrev pub ends_below : Kind → ℕ → ℕ → ℕ → List End
  ends_below kind zero level page = []
  ends_below kind (suc left) level page = if is_fresh heading trust h page
      then flat_map (λ next. end_at (suc level) next ∷ ends_below kind left (suc level) next)
      (filter_map (λ place. next_of kind level (value_of (events_of h) place)) (places_in (events_of h) page)) else []

  abbrev pub attached_from : Kind → ℕ → List ℕ → Attached
  attached_from kind level pages = record {
    kind = kind;
    first = map (end_at level) pages;
    deeper = flat_map (ends_below kind (3 - level) level) pages;
  }

  -- Attach: a write of a valid table value at a place of a tree that holds nothing attaches its next page, and a `root`
  -- the pages that it names. No other event attaches anything.
  abbrev pub attached_by : Event → Option Attached
  attached_by (Write pe place value) = do
    n ← node_of heading trust h (page_of place)
    next ← if is_none (held_at heading trust h n place) then next_of n.kind n.level value else None
    Some (attached_from n.kind (suc n.level) (next ∷ []))
  attached_by (Root pe kind lock page) =
      Some (attached_from kind (start_of heading.world kind) (root_pages heading.world kind page))
  attached_by _ = None
