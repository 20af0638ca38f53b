use Rattle.bbm_rules.proofs.Common.{arith, events_of, places_with}
use Rattle.bbm_judge.specs.Flaws.{has_flaw}
use Rattle.bbm_oracle_trees.specs.Past.{notes}
use Rattle.bbm_judge.proofs.Leasts.{least_flat_more}
use Rattle.bbm_judge.proofs.flaws.least_of_ends.Goals as goal

pub loop-end-preserved : goal.loop-end-preserved
loop-end-preserved g c = rw c.lesser-found.ensures
    (least_flat_more (places_with (has_flaw c.args.flaw) c.args.kind (events_of (notes c.args.history.now)))
    c.args.ends.now c.loop-end.end-index c.end-item.result c.loop-end.found c.in_ok-least.least
    (omega arith) c.end-item.is c.loop-end.invariant c.in_ok-least.ensures)
