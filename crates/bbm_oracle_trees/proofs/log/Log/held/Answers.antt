use Rattle.bbm_rules.proofs.Common.{◌≡◌, Bool, ◌∙◌, ap}
use Rattle.bbm_rules.specs.Held.{held_unless}
use Rattle.bbm_oracle_trees.specs.Past.{notes}
use Rattle.bbm_oracle_trees.proofs.log.Log.held.Goals as goal

pub returns : goal.returns
returns g c =
    let past = c.args.self.now in
    let found : c.held.result ≡ held_unless past.heading past.trust c.is_emptied-emptied.result c.args.kind c.args.level
    c.args.place (notes past) = rw (← c.self.view_is) c.held.ensures in
    found
    ∙ ap (λ (b : Bool). held_unless past.heading past.trust b c.args.kind c.args.level c.args.place (notes past))
    c.is_emptied-emptied.ensures
