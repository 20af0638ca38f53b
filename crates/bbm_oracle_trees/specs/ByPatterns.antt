-- What a history stands for by every pattern of events. Source: project's own choice.
use Rattle.std.specs.Prelude.{◌≡◌, List}
use Rattle.bbm_rules.specs.Prelude.{Heading, Event}
use Rattle.bbm_rules.specs.Claims.{Patterns}
use Rattle.bbm_oracle_trees.specs.Past.{Past}
use Rattle.bbm_oracle_trees.specs.HistoryStandsFor.{StandsFor}

-- It stands for this history, and every pattern of events is trusted.
pub record StandsByPatterns (past : Past) (heading : Heading) (h : List Event) : Type 0 where
  pub trust_is : past.trust ≡ Patterns
  pub kept : StandsFor past heading h
