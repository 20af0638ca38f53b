use Rattle.bbm_rules.proofs.Common.{arith, desc_of, events_of, value_of}
use Rattle.bbm_judge.specs.Flaws.{has_flaw}
use Rattle.bbm_oracle_trees.specs.Past.{notes}
use Rattle.bbm_judge.proofs.Leasts.{least_filter_more}
use Rattle.bbm_judge.proofs.flaws.least_flawed.Goals as goal

pub loop-place-preserved : goal.loop-place-preserved
loop-place-preserved g c = rw c.lesser-found.ensures
    (least_filter_more
    (λ place. has_flaw c.args.flaw c.args.kind (desc_of c.args.kind c.end.inside.level (value_of (events_of (notes c.args.history.now)) place)))
    c.deref-place-items.result.now c.loop-place.place-index c.place-item.result c.loop-place.found c.flawed.result
    (omega arith) c.place-item.is c.loop-place.invariant c.flawed.ensures)
