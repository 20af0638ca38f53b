-- Which events and which roots can stand in a log with a header. Source: project's own choice.
use Rattle.std.specs.Prelude.{Bool, List}
use Rattle.bbm_events.specs.Fits.{fits_heading, is_root_page}
use Rattle.bbm_rules.specs.Prelude.{Heading, Event}
use Rattle.bbm_rules.specs.Lists.{every}
use Rattle.bbm_rules.specs.Roots.{Declared}

-- each event can
abbrev pub all_fit : Heading → List Event → Bool
all_fit heading h = every (fits_heading heading) h

-- the first page of the root is aligned to the size of all its pages
abbrev pub fits_root : Heading → Declared → Bool
fits_root heading r = is_root_page heading.world r.kind r.page
