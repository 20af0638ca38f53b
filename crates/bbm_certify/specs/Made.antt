-- What is kept of the events taken while a certificate is made. No public contract cites these words.
-- Source: project's own choice.
use Rattle.std.specs.Prelude.{◌≡◌, ℕ, suc, ◌<◌, ◌^◌, false, true, List, ◌∷◌, length, None, Contains}
use Rattle.bbm_events.specs.declared.claim.Claim.{Claim}
use Rattle.bbm_rules.specs.Broken.{keeps}
use Rattle.bbm_rules.specs.Claims.Trust.{Patterns}
use Rattle.bbm_rules.specs.Covers.{noted}
use Rattle.bbm_rules.specs.Held.{last_valid}
use Rattle.bbm_rules.specs.Lists.{among}
use Rattle.bbm_rules.specs.Prelude.{Heading, Event, Kind}
use Rattle.bbm_oracle_trees.specs.Past.{Past}
use Rattle.bbm_oracle_trees.specs.ByPatterns.{StandsByPatterns}
use Rattle.bbm_certify.specs.LeastClaims.{Ascending, IsDue}
use Rattle.bbm_certify.specs.Taken.{IsKnown}
use Rattle.bbm_certify.specs.declared.making.Making.{Making}

-- there is an event
abbrev pub IsSome : Past → Type 0
IsSome past = 0 < length past.kept

-- so few events that each has a position, and that one more has one
abbrev pub IsFew : Past → Type 0
IsFew past = length past.kept < 2 ^ 32

abbrev pub IsFewer : Past → Type 0
IsFewer past = suc (length past.kept) < 2 ^ 32

-- no other place has a valid write
abbrev pub AreWritten : Heading → List Event → List ℕ → Type 0
AreWritten heading h places = (kind : Kind) (level place : ℕ) → among place places ≡ false
    → last_valid kind level place (noted heading Patterns h) ≡ None

pub record IsMaking (m : Making) (heading : Heading) (h : List Event) : Type 0 where
  pub history : StandsByPatterns m.history heading h
  pub places : AreWritten heading h m.places.items
  pub known : IsKnown heading h m.known.items

-- the same, where the history has one more event already, which keeps the rules
pub record HasTaken (m : Making) (heading : Heading) (h : List Event) (e : Event) : Type 0 where
  pub history : StandsByPatterns m.history heading (e ∷ h)
  pub places : AreWritten heading h m.places.items
  pub known : IsKnown heading h m.known.items
  pub keeps_rules : keeps heading Patterns (e ∷ h) ≡ true

-- the claims that are due at the event, in their order
pub record AreDue (heading : Heading) (h : List Event) (e : Event) (due : List Claim) : Type 0 where
  pub sorted : Ascending due
  pub sound : (c : Claim) → Contains due c → IsDue heading h e c
  pub complete : (c : Claim) → IsDue heading h e c → Contains due c
