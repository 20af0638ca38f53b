-- Which pages the places of some pages of the trees map. No public contract cites these words. Source: project's own
-- choice.
use Rattle.std.specs.Prelude.{ℕ, Bool, List}
use Rattle.bbm_rules.specs.Claims.{Trust}
use Rattle.bbm_rules.specs.Lists.{any}
use Rattle.bbm_rules.specs.Mapped.{place_maps}
use Rattle.bbm_rules.specs.Notes.{Noted, events_of}
use Rattle.bbm_rules.specs.Prelude.{Heading}
use Rattle.bbm_rules.specs.Tree.{Node}
use Rattle.bbm_rules.specs.Values.{places_in}

module _ (heading : Heading) (trust : Trust) (h : List Noted) (page : ℕ) where
  -- whether a place of the page of a tree maps it
  abbrev pub page_maps : Node → Bool
  page_maps n = any (place_maps heading trust h n page) (places_in (events_of h) n.page)

  -- the same of some pages of the trees
  abbrev pub mapped_in : List Node → Bool
  mapped_in nodes = any page_maps nodes
