-- Which events leave the trees as they are, as far as the pages of the trees before them tell. No public contract cites
-- these words. Source: project's own choice.
use Rattle.std.specs.Prelude.{ℕ, Bool, true, false, not, ◌&&◌, ◌||◌, ◌==◌, List, [], ◌∷◌, is_none, is_some}
use Rattle.bbm_rules.specs.Prelude.{Kind, Heading, Event, Init, Null, Root, Unroot, Write, Dsb}
use Rattle.bbm_rules.specs.Claims.{Trust}
use Rattle.bbm_rules.specs.Held.{held}
use Rattle.bbm_rules.specs.Lists.{any}
use Rattle.bbm_rules.specs.Notes.{Noted}
use Rattle.bbm_rules.specs.Places.{page_of}
use Rattle.bbm_rules.specs.Tree.{Above, Node, next_of}

-- whether the nearest of the places above a page is this one
abbrev pub begins_at : ℕ → List Above → Bool
begins_at place [] = false
begins_at place (a ∷ more) = a.place == place

-- whether a write of the value to the place may link a page below this one, or cut this one off
abbrev pub is_touched : ℕ → ℕ → Node → Bool
is_touched place value n =
    (n.page == page_of place && is_some (next_of n.kind n.level value)) || begins_at place n.above

module _ (heading : Heading) (trust : Trust) (h : List Noted) where
  -- whether there are places above a page, and the nearest of them holds nothing
  abbrev pub holds_none : Kind → List Above → Bool
  holds_none kind [] = false
  holds_none kind (a ∷ more) = is_none (held heading trust kind a.level a.place h)

  abbrev pub is_cut : Node → Bool
  is_cut n = holds_none n.kind n.above

  -- Whether these trees stay, and the fresh pages too, where the event is the newest of h. An event that isn't known
  -- to leave them doesn't.
  abbrev pub leaves : List Node → Event → Bool
  leaves ns (Write pe place value) = not (any (is_touched place value) ns)
  leaves ns (Dsb pe dsb) = not (any is_cut ns)
  leaves ns (Init pe page) = false
  leaves ns (Null pe page) = false
  leaves ns (Root pe kind lock page) = false
  leaves ns (Unroot pe page) = false
  leaves ns _ = true
