-- What is known of the events of a log where a verdict on it is to be told. A history is newest first.
-- Source: project's own choice.
use Rattle.std.specs.Prelude.{◌≡◌, ℕ, Bool, true, List, Option, Some}
use Rattle.bbm_events.specs.declared.event.Event.{Event as EventOf}
use Rattle.bbm_events.specs.Fits.{fits_heading, is_place}
use Rattle.bbm_events.specs.Heading.{Heading}
use Rattle.bbm_rules.specs.declared.rule.Rule.{Rule}
use Rattle.bbm_rules.specs.declared.rule.Rule.TheVariants.{BreakBeforeMake}
use Rattle.bbm_rules.specs.declared.verdict.Verdict.{Verdict}
use Rattle.bbm_rules.specs.declared.verdict.Verdict.TheVariants.{Accepted, Refused}
use Rattle.bbm_rules.specs.Broken.{broken, keeps}
use Rattle.bbm_rules.specs.Claims.{Patterns}
use Rattle.bbm_rules.specs.Lists.{every}
use Rattle.bbm_texts.specs.declared.decision.Decision.{Decision}

-- A refused event: it fits the header, and this is the least rule that it breaks after the history, with the number that
-- the rule names.
pub record IsRefused (heading : Heading) (h : List EventOf) (rule : Rule) (at : ℕ) (event : EventOf) : Type 0 where
  pub fits : fits_heading heading event ≡ true
  pub breaks : broken heading Patterns h event ≡ Some (record { rule = rule; at = at })

-- whether each event of a history fits its header
abbrev pub all_fit : Heading → List EventOf → Bool
all_fit heading h = every (fits_heading heading) h

-- A checker stands for a history that keeps the rules, and whose events fit its header.
pub record Keeps (stands : Heading → List EventOf → Type 0) (heading : Heading) (h : List EventOf) : Type 0 where
  pub known : stands heading h
  pub fit : all_fit heading h ≡ true
  pub rules : keeps heading Patterns h ≡ true

-- Where a log is accepted, or an event of it refused, this holds of the lines before the line that decides.
abbrev pub KnowsThat : Type 0 → Verdict → Type 0
KnowsThat stands (Accepted events) = stands
KnowsThat stands (Refused line rule at label) = stands
KnowsThat stands _ = Unit {0}

-- the event that a verdict refuses is told
abbrev pub TellsEvent : Heading → List EventOf → Verdict → Option EventOf → Type 0
TellsEvent heading h (Refused line rule at label) refused =
    (event : EventOf) × (refused ≡ Some event) × IsRefused heading h rule at event
TellsEvent heading h _ refused = Unit {0}

-- Where a log is accepted, or an event of it refused, the checker stands for the events before the line that decides,
-- which keep the rules; and the event that is refused is told.
abbrev pub KnowsDecided : (Heading → List EventOf → Type 0) → Heading → List EventOf → Decision → Type 0
KnowsDecided stands heading h decision =
    KnowsThat (Keeps stands heading h) decision.verdict × TellsEvent heading h decision.verdict decision.refused

-- break-before-make names a place
abbrev pub NamesPlace : Rule → ℕ → Type 0
NamesPlace BreakBeforeMake at = is_place at ≡ true
NamesPlace _ at = Unit {0}

-- Where a log is accepted, or an event of it refused, the checker stands for the events before the line that decides,
-- and a place is named where break-before-make is broken.
abbrev pub Knows : (Heading → List EventOf → Type 0) → Heading → List EventOf → Verdict → Type 0
Knows stands heading h (Accepted events) = Keeps stands heading h
Knows stands heading h (Refused line rule at label) = Keeps stands heading h × NamesPlace rule at
Knows stands heading h _ = Unit {0}

-- a verdict behind which nothing is said
abbrev pub EndsThere : Verdict → Type 0
EndsThere (Accepted events) = ⊥
EndsThere (Refused line rule at label) = ⊥
EndsThere _ = Unit {0}
