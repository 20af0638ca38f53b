-- Where a PE stands open to the refused place, the text that `counterrun` writes is a run that ends in a conflict.
use Rattle.bbm_rules.proofs.Common.{◌≡◌, ℕ, suc, ◌<◌, Bool, true, List, length, Option, None, Some, refl, sym, ◌∙◌, ap, subst}
use Rattle.bbm_rules.proofs.Common.{Judged, outcome_of, text_of, fits_heading, Heading, Event, Write}
use Rattle.bbm_rules.specs.Claims.{Patterns}
use Rattle.bbm_rules.specs.Broken.{broken}
use Rattle.bbm_rules.specs.Outcome.{slow_limits}
use Rattle.bbm_rules.specs.declared.rule.Rule.TheVariants.{BreakBeforeMake}
use Rattle.bbm_rules.specs.declared.verdict.Verdict.{Verdict}
use Rattle.bbm_rules.specs.declared.verdict.Verdict.TheVariants.{Refused}
use Rattle.bbm_report.specs.Further.{heading_in}
use Rattle.bbm_events.specs.LineLaws.{LineLaws}
use Rattle.bbm_tlb_machine.specs.Safe.{IsLog}
use Rattle.bbm_tlb_machine.specs.declared.step.Step.{Step}
use Rattle.bbm_counterrun.specs.Plans.{Finds}
use Rattle.bbm_counterrun.specs.RefusedWrite.{IsRefused, holds_leaf}
use Rattle.bbm_counterrun.specs.StandsOpen.{StandsOpen}
use Rattle.bbm_texts.specs.Counterruns.{RunAt, found_steps, steps_text}
use Rattle.bbm_texts.specs.Known.{TellsEvent}
use Rattle.bbm_texts.specs.Says.{IsOutput}
use Rattle.bbm_texts.specs.declared.commands.Command.TheVariants.{Show}
use Rattle.bbm_texts.specs.declared.commands.Evidence.TheVariants.{Counterrun}
use Rattle.bbm_texts.proofs.Refusals.{write-place}
use Rattle.bbm_session.specs.FollowedRuns.{EndsAtWrite, IsFollowedToItsEnd}
use Rattle.bbm_session.specs.Run.{IsTextOf}
use Rattle.bbm_session.proofs.CounterrunLines.{RunLaws, WrittenLines, ends_at_write}
use Rattle.bbm_session.proofs.RefusedLogs.{IsTold, bytes_told}

-- what the law of exact refusals says
abbrev pub ExactLaw : Type 0
ExactLaw = (heading : Heading) (h : List Event) (pe place value p : ℕ) (found : Option (List Step)) → IsLog heading h
    → IsRefused heading h pe place value → StandsOpen heading h place p → Finds heading h (Write pe place value) found
    → found ≡ None → ⊥

module _ (written : WrittenLines) (runs : RunLaws) (read : LineLaws) (exact : ExactLaw) (bytes text : List ℕ) (heading : Heading)
    (pe place value p line at : ℕ) (label : Option (List ℕ)) where
  abbrev judged : Judged
  judged = (outcome_of Patterns slow_limits bytes).says

  module _ (is : IsTextOf (Show Counterrun) bytes text) (heads : heading_in (text_of bytes).lines ≡ Some heading)
      (refused : (outcome_of Patterns slow_limits bytes).says.refused ≡ Some (Write pe place value))
      (verdict : (outcome_of Patterns slow_limits bytes).says.verdict ≡ Refused line BreakBeforeMake at label)
      (leaf : holds_leaf heading (outcome_of Patterns slow_limits bytes).says.log place ≡ true)
      (open-there : StandsOpen heading (outcome_of Patterns slow_limits bytes).says.log place p)
      (few : length (outcome_of Patterns slow_limits bytes).says.log < 1991) where
    told : IsTold heading judged
    told = bytes_told read slow_limits heading bytes heads

    tells : TellsEvent heading judged.log (Refused line BreakBeforeMake at label) judged.refused
    tells = subst (λ (v : Verdict). TellsEvent heading judged.log v judged.refused) verdict told.1

    same : tells.0 ≡ Write pe place value
    same = let both : Some tells.0 ≡ Some (Write pe place value) = sym tells.1 ∙ refused in cc

    fits : fits_heading heading (Write pe place value) ≡ true
    fits = subst (λ (e : Event). fits_heading heading e ≡ true) same tells.2.fits

    breaks : broken heading Patterns judged.log (Write pe place value) ≡ Some (record { rule = BreakBeforeMake; at = at })
    breaks = subst (λ (e : Event). broken heading Patterns judged.log e ≡ Some (record { rule = BreakBeforeMake; at = at })) same tells.2.breaks

    is_refused : IsRefused heading judged.log pe place value
    is_refused = record {
      kept = told.0.kept;
      refused = breaks ∙ ap (λ (n : ℕ). Some (record { rule = BreakBeforeMake; at = n })) (sym (write-place heading judged.log pe place value at breaks));
    }

    at_found : (found : Option (List Step)) → Finds heading judged.log (Write pe place value) found
        → text ≡ found_steps heading (suc (length judged.log)) found → EndsAtWrite heading (Write pe place value) text
    at_found None finds says = absurd (exact heading judged.log pe place value p None told.0.log is_refused open-there finds refl)
    at_found (Some steps) finds says =
        subst (EndsAtWrite heading (Write pe place value))
        (sym (says ∙ ap (λ (ss : List Step). steps_text heading (suc (length judged.log)) ss) finds.2))
        (ends_at_write written runs heading judged.log pe place value told.0.log fits told.0.kept few finds.0 finds.1.plain)

    output : IsOutput (Show Counterrun) (Some heading) judged.log (Some (Write pe place value)) (Refused line BreakBeforeMake at label) text
    output =
        subst (λ (v : Verdict). IsOutput (Show Counterrun) (Some heading) judged.log (Some (Write pe place value)) v text) verdict
        (subst (λ (o : Option Event). IsOutput (Show Counterrun) (Some heading) judged.log o judged.verdict text) refused
        (subst (λ (o : Option Heading). IsOutput (Show Counterrun) o judged.log judged.refused judged.verdict text) heads is))

    run_at : RunAt true heading judged.log (Write pe place value) (Refused line BreakBeforeMake at label) text
    run_at =
        subst (λ (b : Bool). RunAt b heading judged.log (Write pe place value) (Refused line BreakBeforeMake at label) text) leaf output

    pub open_followed : IsFollowedToItsEnd bytes text
    open_followed = record {
      heading = heading;
      header = heads;
      event = Write pe place value;
      refused = refused;
      ends = at_found run_at.0 run_at.1 run_at.2;
    }
