use Rattle.bbm_rules.proofs.Common.{◌≡◌, List, ◌∷◌, ◌++◌, [], reverse, ap, ◌∙◌, Trust}
use Rattle.bbm_events.specs.declared.event.Event.{Event}
use Rattle.bbm_events.specs.declared.event.Event.TheVariants.{Msr}
use Rattle.bbm_oracle_rules.specs.Conflicts.{conflict_pages}
use Rattle.bbm_oracle_rules.proofs.RuleLemmas.{conflict-at}
use Rattle.bbm_oracle_rules.proofs.rules.tag_conflict.Goals as goal

pub returns-in_ok-pages-in-Msr : goal.returns-in_ok-pages-in-Msr
returns-in_ok-pages-in-Msr g c = λ h e.
    let trust : Trust = g.E.TagEvidence.trust c.args.evidence.now in
    let after : c.deref.result.now ≡ c.args.events.now ++ Msr c.in-Msr.pe c.in-Msr.reg c.in-Msr.value ∷ [] =
    c.deref.ensures.value ∙ c.in_ok-after-in-Msr.ensures
    ∙ ap (λ (x : Event). c.args.events.now ++ x ∷ []) c.in-Msr.is in
    rw c.in-Msr.is (conflict-at c.args.header.now trust h c.args.events.now c.in-Msr.pe c.in-Msr.value c.in-Msr.reg
    c.deref-in-Msr.result.now c.least.result
    c.least.ensures
    (c.deref-in-Msr.ensures.value ∙ c.in_ok-pages-in-Msr.ensures
    ∙ ap (λ (es : List Event). conflict_pages c.args.header.now trust (reverse es) c.in-Msr.pe) after) e)
