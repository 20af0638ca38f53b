use Rattle.bbm_rules.proofs.Common.{events_of, places_with}
use Rattle.bbm_judge.specs.Flaws.{has_flaw}
use Rattle.bbm_oracle_trees.specs.Past.{notes}
use Rattle.bbm_judge.proofs.Leasts.{least_of_both}
use Rattle.bbm_judge.proofs.flaws.least_attached.Goals as goal

pub returns : goal.returns
returns g c =
    rw (← c.attached.view_is, c.lesser.ensures)
    (least_of_both (places_with (has_flaw c.args.flaw) c.attached.inside.kind (events_of (notes c.args.history.now)))
    c.attached.inside.first.items c.attached.inside.deeper.items c.in_ok-first.first c.in_ok-deeper.deeper
    (rw c.deref.ensures.value at c.in_ok-first.ensures) (rw c.deref-2.ensures.value at c.in_ok-deeper.ensures))
