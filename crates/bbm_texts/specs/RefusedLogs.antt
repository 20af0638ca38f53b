-- A log whose last event is refused. A history is newest first. No public contract cites these words.
use Rattle.std.specs.Prelude.{◌≡◌, ℕ, true, List, ◌∷◌, reverse, Some}
use Rattle.bbm_events.specs.declared.event.Event.{Event}
use Rattle.bbm_events.specs.Fits.{fits_heading}
use Rattle.bbm_events.specs.Heading.{Heading}
use Rattle.bbm_rules.specs.Broken.{broken, keeps}
use Rattle.bbm_rules.specs.Claims.{Patterns}
use Rattle.bbm_rules.specs.declared.rule.Rule.TheVariants.{BreakBeforeMake}
use Rattle.bbm_texts.specs.Known.{all_fit}
use Rattle.bbm_tlb_machine.specs.declared.step.Step.{Step}
use Rattle.bbm_tlb_machine.specs.declared.step.Step.TheVariants as step

-- the log, oldest first, has these events, which keep the rules, and at the end the one that break-before-make refuses
pub record EndsRefused (heading : Heading) (h : List Event) (e : Event) (log : List Event) : Type 0 where
  pub is : reverse log ≡ e ∷ h
  pub fit : all_fit heading (e ∷ h) ≡ true
  pub kept : keeps heading Patterns h ≡ true
  pub at : ℕ
  pub refused : broken heading Patterns h e ≡ Some (record { rule = BreakBeforeMake; at = at })

-- the step fits the header
abbrev pub Fits : Heading → Step → Type 0
Fits heading (step.Event event) = fits_heading heading event ≡ true
Fits heading (step.Machine line) = Unit {0}
