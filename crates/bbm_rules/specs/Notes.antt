-- The annotated history. Which places a TLBI covers depends on what they hold at its issue, and what a place holds
-- depends on the TLBIs that covered it before. So each event stands in a list, the newest first, with what the
-- definitions say of it from the older part of the list alone. Source: project's own choice.
use Rattle.std.specs.Prelude.{ℕ, List, [], ◌∷◌}
use Rattle.bbm_tlbi_scope.specs.declared.entry.Cover.{Cover}
use Rattle.bbm_rules.specs.Prelude.{Event}

pub record Noted : Type 0 where
  pub event : Event
  -- how far it covers each place, where it is a TLBI
  pub covers : ℕ → Cover
  -- its top cover of each place: how far it covers what ends there
  pub tops : ℕ → Cover
  -- its position in the log; the first event has position 1
  pub position : ℕ

abbrev pub event_of : Noted → Event
event_of n = n.event

-- the event as if it covered each place as far as its top cover says
abbrev pub topped : Noted → Noted
topped n = record n { covers = n.tops }

-- the history without the notes
abbrev pub events_of : List Noted → List Event
events_of [] = []
events_of (n ∷ h) = n.event ∷ events_of h
