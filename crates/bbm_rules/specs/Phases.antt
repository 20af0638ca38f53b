-- How far a place has been taken through break-before-make at a PE, and which places are on the way. Source: project's
-- own choice.
use Rattle.std.specs.Option.{option_map_or}
use Rattle.std.specs.Prelude.{ℕ, Bool, false, not, ◌&&◌, ◌||◌, List, Some, None, count_by, is_some, unwrap_or, if◌then◌else◌}
use Rattle.bbm_descriptor.specs.Descriptor.{is_valid}
use Rattle.bbm_rules.specs.Prelude.{Heading, Event}
use Rattle.bbm_rules.specs.declared.phase.Phase.{Phase}
use Rattle.bbm_rules.specs.declared.phase.Phase.TheVariants.{Clean, Live, Broken, Seen, Half, Cleansed}
use Rattle.bbm_rules.specs.Claims.{Trust}
use Rattle.bbm_rules.specs.Cleansing.{cleansed, half, seen}
use Rattle.bbm_rules.specs.Covers.{noted}
use Rattle.bbm_rules.specs.Held.{cleansed_everywhere, emptied, last_valid}
use Rattle.bbm_rules.specs.Lists.{◌>>=◌}
use Rattle.bbm_rules.specs.Notes.{Noted, events_of}
use Rattle.bbm_rules.specs.Places.{page_of}
use Rattle.bbm_rules.specs.Tree.{held_at, node_of}
use Rattle.bbm_rules.specs.Values.{value_of, written_places}

module _ (heading : Heading) (trust : Trust) where
  -- the phase of a broken place: the furthest that it has come
  abbrev pub broken_phase : ℕ → ℕ → List Noted → Phase
  broken_phase place p since = if cleansed heading trust place p since then Cleansed
      else (if half heading place p since then Half else (if seen heading place p since then Seen else Broken))

  -- Phase: clean where the place is in no tree or holds nothing; live where its value is valid; else the furthest of
  -- cleansed, half and seen, or broken where it is none of them.
  unfoldable pub phase_of : List Event → ℕ → ℕ → Phase
  phase_of h place p = unwrap_or (do
    n ← node_of heading trust (noted heading trust h) (page_of place)
    w ← last_valid n.kind n.level place (noted heading trust h)
    if emptied heading trust n.kind n.level place (noted heading trust h) || cleansed_everywhere heading trust place w.since
        then None else Some (if is_valid n.kind n.level (value_of h place) then Live else broken_phase place p w.since)) Clean

  -- Restless: a place of a tree that holds a value and whose value is invalid. A place that was never written holds
  -- nothing.
  abbrev pub is_restless : List Noted → ℕ → Bool
  is_restless h place = option_map_or (λ n. is_some (held_at heading trust h n place)
      && not (is_valid n.kind n.level (value_of (events_of h) place))) (node_of heading trust h (page_of place)) false

  -- how many places are restless
  unfoldable pub restless_of : List Event → ℕ
  restless_of h = count_by (is_restless (noted heading trust h)) (written_places h)
