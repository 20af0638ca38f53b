-- The phase of a place of a tree, and the value of one that is above.
-- Source: project's own choice.
use Rattle.std.specs.Prelude.{ℕ, Bool, ◌||◌, List, Option, Some, None, unwrap_or, if◌then◌else◌}
use Rattle.bbm_descriptor.specs.Descriptor.{is_valid}
use Rattle.bbm_rules.specs.Prelude.{Heading, Kind}
use Rattle.bbm_rules.specs.declared.phase.Phase.{Phase}
use Rattle.bbm_rules.specs.declared.phase.Phase.TheVariants.{Clean, Live, Broken, Seen, Half, Cleansed}
use Rattle.bbm_rules.specs.Claims.{Trust}
use Rattle.bbm_rules.specs.Held.{above_everywhere, cleansed_everywhere, emptied, last_valid}
use Rattle.bbm_rules.specs.Lists.{◌>>=◌}
use Rattle.bbm_rules.specs.Notes.{Noted}
use Rattle.bbm_rules.specs.Phases.{broken_phase}

-- The phase at p of a place that is in a tree, at this kind and level, with this value: as `phase_of` has it where it
-- found the node of the place.
abbrev pub phase_at : Heading → Trust → Kind → ℕ → ℕ → ℕ → ℕ → List Noted → Phase
phase_at heading trust kind level place value p h = unwrap_or (do
  w ← last_valid kind level place h
  if emptied heading trust kind level place h || cleansed_everywhere heading trust place w.since then None
      else Some (if is_valid kind level value then Live else broken_phase heading trust place p w.since)) Clean

-- the last valid value of a place, where the place is above at every PE since
abbrev pub value_above : Heading → Trust → Kind → ℕ → ℕ → List Noted → Option ℕ
value_above heading trust kind level place h = last_valid kind level place h
    >>= (λ w. if above_everywhere heading trust place w.since then Some w.value else None)

-- the phase of a broken place that is cleansed, half and seen, or not
abbrev pub furthest : Bool → Bool → Bool → Phase
furthest cleansed half seen =
    if cleansed then Cleansed else (if half then Half else (if seen then Seen else Broken))
