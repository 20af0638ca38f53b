-- The way to a place: the places that a walk reads to come to it, from the root down, each with what it holds; and of
-- each the least value that a walk can read there at some moment with the same meaning. A history is newest first.
-- Source: project's own choice.
use Rattle.std.specs.Prelude.{ℕ, Bool, ◌&&◌, not, ◌==◌, List, [], ◌∷◌, ◌++◌, map, filter, filter_map, reverse, Option}
use Rattle.std.specs.Prelude.{Some, None, if◌then◌else◌}
use Rattle.bbm_descriptor.specs.Descriptor.{is_valid, needs}
use Rattle.bbm_rules.specs.Claims.{Trust, Patterns}
use Rattle.bbm_rules.specs.Covers.{noted}
use Rattle.bbm_rules.specs.Lists.{◌>>=◌, least}
use Rattle.bbm_rules.specs.Notes.{Noted}
use Rattle.bbm_rules.specs.Places.{page_of}
use Rattle.bbm_rules.specs.Prelude.{Kind, Heading, Event, Write}
use Rattle.bbm_rules.specs.Tree.{Node, held_at, node_of}
use Rattle.bbm_rules.specs.Values.{is_readable}
use Rattle.bbm_counterrun.specs.Plans.{Read}

-- a place of a tree, its kind and level there, and what it holds
pub record Goal : Type 0 where
  pub place : ℕ
  pub kind : Kind
  pub level : ℕ
  pub value : ℕ

-- the values that were ever written at a place
abbrev pub written_at : List Event → ℕ → List ℕ
written_at [] place = []
written_at (Write pe at value ∷ h) place = if at == place then value ∷ written_at h place else written_at h place
written_at (_ ∷ h) place = written_at h place

-- the places of the way, from the root down: those above the page of the place, and the place
abbrev pub places_to : Option Node → ℕ → List ℕ
places_to None place = []
places_to (Some n) place = reverse (map (λ a. a.place) n.above) ++ place ∷ []

-- the way by the notes of a history and what is trusted
module _ (heading : Heading) (trust : Trust) (h : List Noted) where
  -- a place of a page with what it holds
  abbrev pub goal_in : ℕ → Node → Option Goal
  goal_in place n = do
    value ← held_at heading trust h n place
    Some (record { place = place; kind = n.kind; level = n.level; value = value })

  abbrev pub goal_among : ℕ → Option Goal
  goal_among place = node_of heading trust h (page_of place) >>= goal_in place

  -- those of these places that hold something
  abbrev pub goals_among : List ℕ → List Goal
  goals_among places = filter_map goal_among places

  abbrev pub way_among : ℕ → List Goal
  way_among place = goals_among (places_to (node_of heading trust h (page_of place)) place)

module _ (heading : Heading) where
  -- the way by every pattern of events
  abbrev pub way_to : List Event → ℕ → List Goal
  way_to h = way_among heading Patterns (noted heading Patterns h)

  module _ (h : List Event) (p : ℕ) where
    -- whether p can read the value at the place of the goal, and it has the core of what the place holds
    abbrev pub is_like : Goal → ℕ → Bool
    is_like g value = is_valid g.kind g.level value && not (needs g.kind g.level g.value value)
        && is_readable heading h g.place p value

    abbrev pub least_read : Goal → Option ℕ
    least_read g = least (filter (is_like g) (written_at h g.place))

    -- the least reads of a way, None where some place of it can't be read so
    abbrev pub least_reads : List Goal → Option (List Read)
    least_reads [] = Some []
    least_reads (g ∷ gs) = do
      value ← least_read g
      rest ← least_reads gs
      Some (record { place = g.place; value = value } ∷ rest)
