use Rattle.bbm_rules.proofs.Common.{List, ◌∙◌, ap}
use Rattle.bbm_oracle_patterns.specs.declared.search.TreePlace.{TreePlace}
use Rattle.bbm_oracle_trees.specs.Emptied.{AreEmptied, is_among}
use Rattle.bbm_oracle_trees.specs.Past.{notes}
use Rattle.bbm_oracle_trees.proofs.log.Log.is_emptied.Goals as goal

pub returns : goal.returns
returns g c =
    let past = c.args.self.now in
    let seat = c.args.seat.now in
    let kept : AreEmptied past.heading past.trust (notes past) c.self.inside.emptied.items =
    rw (← c.self.view_is) c.self.invariant in
    c.has_seat.ensures
    ∙ ap (λ (xs : List TreePlace). is_among xs seat.kind seat.level seat.place) c.deref.ensures.value
    ∙ kept.are seat.kind seat.level seat.place
