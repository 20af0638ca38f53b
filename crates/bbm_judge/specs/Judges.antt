-- What the parts of a step answer. Source: project's own choice.
use Rattle.std.specs.Prelude.{◌≡◌, Option, Some, None, Result, Ok, Err}
use Rattle.bbm_regimes.specs.declared.regime.Which.{Which}
use Rattle.bbm_rules.specs.declared.step_fault.StepFault.{StepFault}
use Rattle.bbm_rules.specs.declared.step_fault.StepFault.TheVariants.{Broken, Limit, NoMemory}
use Rattle.bbm_rules.specs.Broken.{Breach}

-- the answer where this is the least broken rule, or none is broken
abbrev pub Judges : Result (Unit {0}) StepFault → Option Breach → Type 0
Judges (Ok _) breach = breach ≡ None
Judges (Err (Broken rule at)) breach = breach ≡ Some (record { rule = rule; at = at })
Judges (Err (Limit which)) breach = ⊥
Judges (Err NoMemory) breach = Unit {0}

-- the answer where the event reaches this limit, or none
abbrev pub Reaches : Result (Unit {0}) StepFault → Option Which → Type 0
Reaches (Ok _) limit = limit ≡ None
Reaches (Err (Broken rule at)) limit = ⊥
Reaches (Err (Limit which)) limit = limit ≡ Some which
Reaches (Err NoMemory) limit = Unit {0}
