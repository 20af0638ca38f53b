-- What `follow` says of the text of a run that `counterrun` writes. Steps are newest first.
-- Source: project's own choice.
use Rattle.std.specs.Prelude.{◌≡◌, ℕ, suc, List, [], ◌∷◌, length, Some}
use Rattle.bbm_events.specs.declared.event.Event.{Event}
use Rattle.bbm_events.specs.Heading.{Heading}
use Rattle.bbm_follow.specs.Following.{Whole, followed, line_of, run_of}
use Rattle.bbm_follow.specs.declared.followed.Followed.TheVariants.{Run}
use Rattle.bbm_report.specs.Further.{heading_in}
use Rattle.bbm_rules.specs.Claims.{Patterns}
use Rattle.bbm_rules.specs.Fold.{text_of}
use Rattle.bbm_rules.specs.Outcome.{outcome_of, slow_limits}
use Rattle.bbm_tlb_machine.specs.declared.step.Step.{Step}
use Rattle.bbm_tlb_machine.specs.declared.step.Step.TheVariants.{Event as Taken}

-- The text is a run under this header whose last step is this event, and nothing else. Each step can be made, and the
-- first at which a clause of a safe log fails is the last one.
pub record EndsAtWrite (heading : Heading) (e : Event) (text : List ℕ) : Type 0 where
  pub older : List Step
  pub read : run_of text ≡ record { says = Whole heading (Taken e ∷ older); unread = [] }
  pub followed : followed heading (Taken e ∷ older) ≡ Run (suc (length older)) (Some (line_of (length older)))

-- The text is such a run of a log: its header is that of these bytes, and its last step the event of them that is
-- refused under the limits of `counterrun`.
pub record IsFollowedToItsEnd (bytes text : List ℕ) : Type 0 where
  pub heading : Heading
  pub header : heading_in (text_of bytes).lines ≡ Some heading
  pub event : Event
  pub refused : (outcome_of Patterns slow_limits bytes).says.refused ≡ Some event
  pub ends : EndsAtWrite heading event text
