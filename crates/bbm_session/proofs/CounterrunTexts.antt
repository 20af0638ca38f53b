-- The text that `counterrun` writes for bytes is the line of the verdict, `none`, or a run that ends in a conflict.
use Rattle.bbm_session.proofs.Common.{Accepted, IsRefused, Limit, Malformed, Patterns, Refused, Rule, IsOutput, Show}
use Rattle.bbm_session.proofs.Common.{Step, Verdict, heading_in}
use Rattle.bbm_rules.proofs.Common.{◌≡◌, ℕ, suc, ◌<◌, Bool, true, false, List, ◌∷◌, length, Option, None, Some, codes}
use Rattle.bbm_rules.proofs.Common.{refl, sym, ◌∙◌, ap, subst, fits_heading, Judged, outcome_of, text_of, Heading}
use Rattle.bbm_rules.proofs.Common.{Event, Write}
use Rattle.bbm_events.specs.LineLaws.{LineLaws}
use Rattle.bbm_rules.specs.Outcome.{slow_limits}
use Rattle.bbm_rules.specs.Texts.{verdict_text}
use Rattle.bbm_rules.specs.declared.rule.Rule.TheVariants.{BreakBeforeMake}
use Rattle.bbm_counterrun.specs.Plans.{Finds}
use Rattle.bbm_counterrun.specs.RefusedWrite.{ends_at_leaf, holds_leaf}
use Rattle.bbm_texts.specs.Counterruns.{RunAt, RunOf, found_steps, refused_by, refused_write, steps_text}
use Rattle.bbm_texts.specs.Known.{TellsEvent}
use Rattle.bbm_texts.specs.declared.commands.Evidence.TheVariants.{Counterrun}
use Rattle.bbm_session.specs.FollowedRuns.{EndsAtWrite, IsFollowedToItsEnd}
use Rattle.bbm_session.specs.Run.{IsTextOf}
use Rattle.bbm_session.proofs.CounterrunLines.{RunLaws, WrittenLines, ends_at_write}
use Rattle.bbm_session.proofs.RefusedLogs.{IsTold, bytes_told}

-- ---- the text for bytes

module _ (written : WrittenLines) (runs : RunLaws) (read : LineLaws) (bytes text : List ℕ) where
  abbrev judged : Judged
  judged = (outcome_of Patterns slow_limits bytes).says

  module _ (no_verdict : text ≡ verdict_text judged.verdict → ⊥) (no_none : text ≡ codes "none\n" → ⊥)
      (few : length judged.log < 1991) (heading : Heading)
      (heads : heading_in (text_of bytes).lines ≡ Some heading) where
    abbrev h : List Event
    h = judged.log

    told : IsTold heading judged
    told = bytes_told read slow_limits heading bytes heads

    at_found : (pe place value : ℕ) → fits_heading heading (Write pe place value) ≡ true
        → (found : Option (List Step)) → Finds heading h (Write pe place value) found
        → text ≡ found_steps heading (suc (length h)) found → EndsAtWrite heading (Write pe place value) text
    at_found pe place value fits None finds is = absurd (no_none is)
    at_found pe place value fits (Some steps) finds is =
        subst (EndsAtWrite heading (Write pe place value))
        (sym (is ∙ ap (λ (ss : List Step). steps_text heading (suc (length h)) ss) finds.2))
        (ends_at_write written runs heading h pe place value told.0.log fits told.0.kept few finds.0 finds.1.plain)

    at_write : (leaf : Bool) (pe place value : ℕ) → fits_heading heading (Write pe place value) ≡ true
        → RunAt leaf heading h (Write pe place value) judged.verdict text
        → EndsAtWrite heading (Write pe place value) text
    at_write true pe place value fits says = at_found pe place value fits says.0 says.1 says.2
    at_write false pe place value fits says = absurd (no_verdict says)

    at_event : (e : Event) → fits_heading heading e ≡ true
        → RunAt (ends_at_leaf heading (e ∷ h)) heading h e judged.verdict text → EndsAtWrite heading e text
    at_event (Write pe place value) fits says = at_write (holds_leaf heading h place) pe place value fits says
    at_event _ fits says = absurd (no_verdict says)

    at_refused : (o : Option Event) (rule : Rule) (at : ℕ)
        → ((e : Event) × (o ≡ Some e) × IsRefused heading h rule at e)
        → RunOf heading h judged.verdict text o → (e : Event) × (o ≡ Some e) × EndsAtWrite heading e text
    at_refused None rule at tells says = absurd (no_verdict says)
    at_refused (Some e) rule at tells says =
        let same : tells.0 ≡ e = cc in
        let fits = subst (λ (x : Event). fits_heading heading x ≡ true) same tells.2.fits in
        (e, refl, at_event e fits says)

    at_rule : (rule : Rule) (at : ℕ) → ((e : Event) × (judged.refused ≡ Some e) × IsRefused heading h rule at e)
        → RunOf heading h judged.verdict text (refused_by rule judged.refused)
        → (e : Event) × (judged.refused ≡ Some e) × EndsAtWrite heading e text
    at_rule BreakBeforeMake at tells says = at_refused judged.refused BreakBeforeMake at tells says
    at_rule _ at tells says = absurd (no_verdict says)

    at_verdict : (v : Verdict) → TellsEvent heading h v judged.refused
        → RunOf heading h judged.verdict text (refused_write judged.refused v)
        → (e : Event) × (judged.refused ≡ Some e) × EndsAtWrite heading e text
    at_verdict (Accepted events) tells says = absurd (no_verdict says)
    at_verdict (Refused line rule at label) tells says = at_rule rule at tells says
    at_verdict (Malformed line cause) tells says = absurd (no_verdict says)
    at_verdict (Limit line which) tells says = absurd (no_verdict says)

  pub text_followed : IsTextOf (Show Counterrun) bytes text → (text ≡ verdict_text judged.verdict → ⊥)
      → (text ≡ codes "none\n" → ⊥) → length judged.log < 1991 → IsFollowedToItsEnd bytes text
  text_followed is no_verdict no_none few = by (heading_in (text_of bytes).lines) refl is
    where
      by : (o : Option Heading) → heading_in (text_of bytes).lines ≡ o
          → IsOutput (Show Counterrun) o judged.log judged.refused judged.verdict text → IsFollowedToItsEnd bytes text
      by None heads says = absurd (no_verdict says)
      by (Some heading) heads says =
          let k = at_verdict no_verdict no_none few heading heads judged.verdict
          (told no_verdict no_none few heading heads).1 says in
          record { heading = heading; header = heads; event = k.0; refused = k.1; ends = k.2 }
