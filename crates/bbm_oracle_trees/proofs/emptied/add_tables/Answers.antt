use Rattle.bbm_rules.proofs.Common.{subst, List, ◌+◌, ◌∙◌, take_all}
use Rattle.bbm_events.specs.declared.event.Event.{Event}
use Rattle.bbm_oracle_trees.specs.Emptied.{is_new}
use Rattle.bbm_oracle_trees.specs.Past.{notes}
use Rattle.bbm_oracle_trees.proofs.Emptying.{Added, added_more, added_none, all_found}
use Rattle.bbm_oracle_trees.proofs.emptied.add_tables.Goals as goal

pub loop-event-init : goal.loop-event-init
loop-event-init g c =
    let past = c.args.taken.now in
    added_none c.args.tables.now.kind c.args.tables.now.level
    (λ k level place. is_new past.heading past.trust c.args.emptied.now k level place (notes past))
    c.args.found.now.items

pub loop-event-preserved : goal.loop-event-preserved
loop-event-preserved g c =
    let past = c.args.taken.now in
    added_more c.args.tables.now.kind c.args.tables.now.level
    (λ k level place. is_new past.heading past.trust c.args.emptied.now k level place (notes past))
    c.args.found.now.items c.events-events.result.now c.loop-event.event-index c.event-item.result
    c.loop-event.found.items c.add_linked.new.found.items c.loop-event-test.true c.event-item.is
    c.loop-event.invariant c.in_ok-add_linked.ensures

pub returns : goal.returns
returns g c =
    let past = c.args.taken.now in
    all_found past.heading past.trust c.args.emptied.now (notes past)
    c.args.tables.now.kind c.args.tables.now.level c.args.found.now.items c.loop-event.found.items
    c.events-events.result.now c.events-events.ensures
    (subst (λ (es : List Event). Added c.args.tables.now.kind c.args.tables.now.level
    (λ k level place. is_new past.heading past.trust c.args.emptied.now k level place (notes past))
    c.args.found.now.items es c.loop-event.found.items)
    (take_all c.loop-event.event-index c.events-events.result.now c.loop-event-test.false) c.loop-event.invariant)
