-- What a history with its notes stands for. Source: project's own choice.
use Rattle.std.specs.Prelude.{◌≡◌, List}
use Rattle.bbm_rules.specs.Prelude.{Heading, Event}
use Rattle.bbm_rules.specs.Covers.{noted}
use Rattle.bbm_rules.specs.Notes.{events_of}
use Rattle.bbm_oracle_trees.specs.Past.{Past, notes}

-- It keeps the header and the events of this history, and with each event the notes that the definitions give by what it
-- trusts.
pub record StandsFor (past : Past) (heading : Heading) (h : List Event) : Type 0 where
  pub heading_is : past.heading ≡ heading
  pub events_are : events_of (notes past) ≡ h
  pub notes_are : notes past ≡ noted heading past.trust h
