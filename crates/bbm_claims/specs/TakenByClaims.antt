-- What evidence by claims keeps of the events that it has taken. A history is newest first. Source: project's own choice.
use Rattle.std.specs.Prelude.{◌≡◌, List, length, map}
use Rattle.bbm_rules.specs.Notes.{Noted, events_of, topped}
use Rattle.bbm_rules.specs.Prelude.{Heading}
use Rattle.bbm_claims.specs.Cleansings.{Tell}
use Rattle.bbm_claims.specs.Holdings.{Keep}
use Rattle.bbm_claims.specs.Spans.{AreSpans}
use Rattle.bbm_claims.specs.declared.by_claims.ByClaims.{ByClaims}

-- It has taken the events with these notes: it keeps what its claims say of them, and how many there are.
abbrev pub HasTaken : ByClaims → Heading → List Noted → Type 0
HasTaken evidence heading notes =
    Tell heading evidence.claims.now notes evidence.cleansings.items
    × Keep heading evidence.claims.now (events_of notes) evidence.tags.held.items evidence.tags.left.items
    × AreSpans heading (events_of notes) evidence.tags.spans.items
    × (evidence.taken ≡ length (events_of notes))
    × Tell heading evidence.claims.now (map topped notes) evidence.above.items
