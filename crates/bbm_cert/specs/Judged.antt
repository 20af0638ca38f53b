-- What claims alone make of a log, by the rules. A history is newest first. Source: project's own choice.
use Rattle.std.specs.Prelude.{◌≡◌, ℕ, suc, true, List, [], ◌∷◌, ◌++◌, length, Option, Some, None}
use Rattle.bbm_rules.specs.Broken.{Breach, broken, keeps}
use Rattle.bbm_rules.specs.Claims.Trust.{Listed}
use Rattle.bbm_rules.specs.Prelude.{Heading, Event}
use Rattle.bbm_events.specs.declared.claim.Claim.{Claim}
use Rattle.bbm_rules.specs.declared.rule.Rule.{Rule}
use Rattle.bbm_cert.specs.declared.judged.Judged.{Judged}
use Rattle.bbm_cert.specs.declared.judged.Judged.TheVariants.{Yes, No}

-- what is judged of the event at this position, which breaks this rule or none, where the events before it keep the
-- rules
abbrev pub judges_as : ℕ → Option Breach → Judged
judges_as position None = Yes
judges_as position (Some breach) = No position breach.rule breach.at

-- what is judged with one more event, which breaks this rule or none
abbrev pub judged_with : ℕ → Option Breach → Judged → Judged
judged_with position breach Yes = judges_as position breach
judged_with position breach (No i rule at) = No i rule at

-- Judged by claims alone: Yes where each event keeps the rules by them; else the position of the first event that
-- doesn't, and the least rule that it breaks.
abbrev pub judged : Heading → List Claim → List Event → Judged
judged heading claims [] = Yes
judged heading claims (e ∷ h) =
    judged_with (suc (length h)) (broken heading (Listed claims) h e) (judged heading claims h)

-- The event at this position is the first that breaks a rule by these claims, and this is the least rule that it
-- breaks.
pub record FirstBroken (heading : Heading) (claims : List Claim) (log : List Event) (position : ℕ) (rule : Rule)
    (at : ℕ)
    : Type 0 where
  pub newer : List Event
  pub event : Event
  pub older : List Event
  pub split : log ≡ newer ++ event ∷ older
  pub position_is : position ≡ suc (length older)
  pub kept : keeps heading (Listed claims) older ≡ true
  pub breach : broken heading (Listed claims) older event ≡ Some (record { rule = rule; at = at })
