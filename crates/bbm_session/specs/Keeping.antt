-- What a checker stands for that keeps its events beside another. No public contract cites these words.
use Rattle.std.specs.Prelude.{◌≡◌, List, reverse}
use Rattle.bbm_events.specs.Heading.{Heading}
use Rattle.bbm_events.specs.declared.event.Event.{Event}

-- the other stands for a history, and the list has its events, the oldest first
pub record KeepsLog (stands : Heading → List Event → Type 0) (log : List Event) (heading : Heading) (h : List Event)
    : Type 0 where
  pub below : stands heading h
  pub log_is : reverse log ≡ h
