use Rattle.bbm_rules.proofs.Common.{refl, sym, ◌∙◌, ap}
use Rattle.bbm_oracle_trees.specs.Emptied.{is_new}
use Rattle.bbm_oracle_trees.specs.Past.{notes}
use Rattle.bbm_oracle_trees.proofs.Emptying.{linked_none, linked_table}
use Rattle.bbm_oracle_trees.proofs.emptied.add_linked.Goals as goal

pub returns-in_ok-add_seat-in-Some : goal.returns-in_ok-add_seat-in-Some
returns-in_ok-add_seat-in-Some g c =
    let past = c.args.taken.now in
    linked_table c.args.tables.now.kind c.args.tables.now.level c.args.event.now
    (λ k level place. is_new past.heading past.trust c.args.emptied.now k level place (notes past))
    c.args.found.now.items c.add_seat.new.found.items c.in-Some.place c.in-Some.ensures c.in_ok-add_seat-in-Some.ensures

pub returns-in-None : goal.returns-in-None
returns-in-None g c =
    let past = c.args.taken.now in
    linked_none c.args.tables.now.kind c.args.tables.now.level c.args.event.now
    (λ k level place. is_new past.heading past.trust c.args.emptied.now k level place (notes past))
    c.args.found.now.items c.args.found.now.items c.in-None.ensures refl
