-- The phase of a place over an annotated history.
-- Source: project's own choice.
use Rattle.std.specs.Prelude.{ℕ, ◌||◌, List, Some, None, unwrap_or, if◌then◌else◌}
use Rattle.bbm_descriptor.specs.Descriptor.{is_valid}
use Rattle.bbm_rules.specs.Prelude.{Heading}
use Rattle.bbm_rules.specs.declared.phase.Phase.{Phase}
use Rattle.bbm_rules.specs.declared.phase.Phase.TheVariants.{Clean, Live}
use Rattle.bbm_rules.specs.Claims.{Trust}
use Rattle.bbm_rules.specs.Held.{cleansed_everywhere, emptied, last_valid}
use Rattle.bbm_rules.specs.Lists.{◌>>=◌}
use Rattle.bbm_rules.specs.Notes.{Noted, events_of}
use Rattle.bbm_rules.specs.Phases.{broken_phase}
use Rattle.bbm_rules.specs.Places.{page_of}
use Rattle.bbm_rules.specs.Tree.{node_of}
use Rattle.bbm_rules.specs.Values.{value_of}

-- as `phase_of` has it of the events whose notes these are
abbrev pub phase_among : Heading → Trust → List Noted → ℕ → ℕ → Phase
phase_among heading trust h place p = unwrap_or (do
  n ← node_of heading trust h (page_of place)
  w ← last_valid n.kind n.level place h
  if emptied heading trust n.kind n.level place h || cleansed_everywhere heading trust place w.since then None
      else Some (if is_valid n.kind n.level (value_of (events_of h) place) then Live
      else broken_phase heading trust place p w.since)) Clean
