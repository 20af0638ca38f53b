-- Which pages an event maps, by what it attaches. No public contract cites this word. Source: project's own choice.
use Rattle.std.specs.Prelude.{ℕ, Bool, ◌||◌, List}
use Rattle.bbm_rules.specs.Attach.{Attached, all_ends}
use Rattle.bbm_rules.specs.Claims.{Trust}
use Rattle.bbm_rules.specs.Lists.{any}
use Rattle.bbm_rules.specs.Notes.{Noted}
use Rattle.bbm_rules.specs.Prelude.{Heading, Event}
use Rattle.bbm_rules.specs.Rules.{end_over, writes_over}

-- whether the event, which attaches these pages, puts a leaf of stage 2 into a tree that maps the page
abbrev pub over : Heading → Trust → List Noted → Event → Attached → ℕ → Bool
over heading trust h e a page =
    writes_over heading trust h e page || any (end_over heading trust h a.kind page) (all_ends a)
