-- Which pages a guest may reach by what stage 2 trees hold, and which tables it can't have written. Source: project's
-- own choice.
use Rattle.std.specs.Prelude.{ℕ, ◌+◌, Bool, false, ◌&&◌, ◌||◌, not, ◌==◌, nat_le, nat_lt, List, [], ◌∷◌, map}
use Rattle.std.specs.Option.{option_map_or}
use Rattle.bbm_descriptor.specs.Descriptor.{desc_of}
use Rattle.bbm_descriptor.specs.declared.desc.Desc.{Desc}
use Rattle.bbm_descriptor.specs.declared.desc.Desc.TheVariants.{Leaf}
use Rattle.bbm_regimes.specs.Extent.{span_of}
use Rattle.bbm_rules.specs.Claims.{Trust}
use Rattle.bbm_rules.specs.Lists.{any}
use Rattle.bbm_rules.specs.Notes.{Noted, events_of}
use Rattle.bbm_rules.specs.Prelude.{Kind, S2, Heading, Event, Init}
use Rattle.bbm_rules.specs.Roots.{same_kind}
use Rattle.bbm_rules.specs.Tree.{Node, held_at, tree}
use Rattle.bbm_rules.specs.Values.{places_in}

-- Output: a leaf maps the pages from its output address on, as many as its level spans.
abbrev pub maps_as : ℕ → Desc → ℕ → Bool
maps_as level (Leaf out attrs share global contiguous) page = nat_le out page && nat_lt page (out + span_of level)
maps_as level _ page = false

-- whether the value is a leaf of stage 2 at this level and maps the page
abbrev pub maps : Kind → ℕ → ℕ → ℕ → Bool
maps kind level value page = same_kind kind S2 && maps_as level (desc_of kind level value) page

abbrev pub initialises : ℕ → Event → Bool
initialises page (Init pe at) = at == page
initialises page _ = false

module _ (heading : Heading) (trust : Trust) where
  module _ (h : List Noted) where
    -- Mapped: some place of a stage 2 tree holds a leaf that maps the page. Held, so also a leaf that is broken and not
    -- cleansed at every PE.
    abbrev pub place_maps : Node → ℕ → ℕ → Bool
    place_maps n page place =
        option_map_or (λ value. maps n.kind n.level value page) (held_at heading trust h n place) false

    abbrev pub is_mapped : ℕ → Bool
    is_mapped page = any (λ n. any (place_maps n page) (places_in (events_of h) n.page)) (tree heading trust h)

    -- the table pages: those of the trees, of any kind
    abbrev pub table_pages : List ℕ
    table_pages = map (λ n. n.page) (tree heading trust h)

  -- Clean: the page was initialised, and was mapped at no moment from its last init on.
  abbrev pub is_clean : List Noted → ℕ → Bool
  is_clean [] page = false
  is_clean (n ∷ h) page = (initialises page n.event || is_clean h page) && not (is_mapped (n ∷ h) page)
