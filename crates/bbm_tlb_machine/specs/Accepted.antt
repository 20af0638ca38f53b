-- What is said of the log of bytes whose first line is a header.
use Rattle.std.specs.Prelude.{◌≡◌, ℕ, List, ◌∷◌, Ok}
use Rattle.bbm_events.specs.Lines.{header_of}
use Rattle.bbm_rules.specs.Claims.{Trust}
use Rattle.bbm_rules.specs.Fold.{text_of}
use Rattle.bbm_rules.specs.Outcome.{outcome_of}
use Rattle.bbm_rules.specs.Prelude.{Heading, Event}
use Rattle.bbm_rules.specs.declared.limits.Limits.{Limits}

-- It holds of the log of bytes: the first line is a header, and this is said of it and of all events that were read
-- under it.
pub record HoldsOfLog (Says : Heading → List Event → Type 0) (trust : Trust) (limits : Limits) (bytes : List ℕ)
    : Type 0 where
  pub heading : Heading
  pub line : List ℕ
  pub lines : List (List ℕ)
  pub first : (text_of bytes).lines ≡ line ∷ lines
  pub header : header_of line ≡ Ok heading
  pub says : Says heading (outcome_of trust limits bytes).says.log
