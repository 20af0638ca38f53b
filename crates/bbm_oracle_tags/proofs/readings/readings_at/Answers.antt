use Rattle.bbm_rules.proofs.Common.{◌≡◌, take, reverse, List, ap, ◌∙◌, arith, take_all, IfOk-weaker, readings}
use Rattle.bbm_events.specs.declared.event.Event.{Event}
use Rattle.bbm_oracle_tags.proofs.MomentLemmas.{moment-readings}
use Rattle.bbm_oracle_tags.proofs.readings.readings_at.Goals as goal

pub returns : goal.returns
returns c =
    let heading = c.args.header.now in
    let whole : take c.loop-event.event-index c.args.events.now
    ≡ c.args.events.now = take_all c.loop-event.event-index c.args.events.now (omega arith) in
    IfOk-weaker c.readings.result _ _
    (λ rs e. e ∙ moment-readings heading (reverse (take c.loop-event.event-index c.args.events.now)) c.args.pe
    c.loop-event.moment c.loop-event.invariant
    ∙ ap (λ (es : List Event). readings heading (reverse es) c.args.pe) whole)
    c.readings.ensures
