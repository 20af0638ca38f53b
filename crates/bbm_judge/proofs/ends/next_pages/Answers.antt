use Rattle.bbm_rules.proofs.Common.{arith, events_of, next_of, value_of}
use Rattle.bbm_oracle_trees.specs.Past.{notes}
use Rattle.bbm_lemmas.proofs.Elements.{filter_map_more}
use Rattle.bbm_judge.proofs.ends.next_pages.Goals as goal

pub loop-place-preserved : goal.loop-place-preserved
loop-place-preserved g c = filter_map_more
    (λ place. next_of c.args.kind c.args.level (value_of (events_of (notes c.args.history.now)) place))
    c.deref-place-items.result.now c.loop-place.place-index c.place-item.result c.loop-place.pages.items c.add_next.new.pages.items
    (omega arith) c.place-item.is c.loop-place.invariant
    (rw (c.next_page.ensures.value, c.value_of-value.ensures, c.events-in-loop-place.ensures) at c.in_ok-add_next.ensures)
